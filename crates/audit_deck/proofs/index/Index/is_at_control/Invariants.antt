use Rattle.audit_deck.specs.Latches.{HasControl}
use Rattle.audit_deck.proofs.Scans.{NoneBefore}
use Rattle.audit_deck.proofs.index.Index.is_at_control.Given as goal

abbrev pub invariant-loop-place : goal.invariant-loop-place
invariant-loop-place l = NoneBefore (HasControl l.self.devices l.roles) l.place-items l.place-index
