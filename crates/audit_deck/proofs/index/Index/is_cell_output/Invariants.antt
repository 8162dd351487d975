use Rattle.audit_deck.specs.Marks.{HoldsDynamic}
use Rattle.audit_deck.proofs.Scans.{NoneBefore}
use Rattle.audit_deck.proofs.index.Index.is_cell_output.Given as goal

abbrev pub invariant-loop-place : goal.invariant-loop-place
invariant-loop-place l = NoneBefore (HoldsDynamic l.self.devices l.roles) l.place-items l.place-index
