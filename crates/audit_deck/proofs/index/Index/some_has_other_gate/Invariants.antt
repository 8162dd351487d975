use Rattle.audit_deck.specs.Loops.{HasOtherGate}
use Rattle.audit_deck.proofs.Scans.{NoneBefore}
use Rattle.audit_deck.proofs.index.Index.some_has_other_gate.Given as goal

abbrev pub invariant-loop-place : goal.invariant-loop-place
invariant-loop-place l = NoneBefore (HasOtherGate l.self.devices l.roles) l.places l.place-index
