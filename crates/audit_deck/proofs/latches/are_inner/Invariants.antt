use Rattle.deck_audit.specs.Words.{IsInner}
use Rattle.audit_deck.specs.Scans.{AllBefore}
use Rattle.audit_deck.proofs.latches.are_inner.Given as goal

abbrev pub invariant-loop-net : goal.invariant-loop-net
invariant-loop-net l = AllBefore (IsInner l.roles) l.nets l.net-index
