use Rattle.audit_deck.specs.Latches.{Covers}
use Rattle.audit_deck.specs.Scans.{AllBefore}
use Rattle.audit_deck.proofs.index.Index.are_covered.Given as goal

abbrev pub invariant-loop-net : goal.invariant-loop-net
invariant-loop-net l = AllBefore (Covers l.self.devices l.places) l.nets l.net-index
