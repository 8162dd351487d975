use Rattle.audit_deck.specs.Latches.{Suits}
use Rattle.audit_deck.proofs.Scans.{NoneBefore}
use Rattle.audit_deck.proofs.index.Index.pick.Given as goal

abbrev pub invariant-loop-place : goal.invariant-loop-place
invariant-loop-place l = NoneBefore (Suits l.self.devices l.roles l.kind l.wanted) l.place-items l.place-index
