use Rattle.audit_deck.specs.Fronts.{MakesDynamic}
use Rattle.audit_deck.proofs.Scans.{NoneBefore}
use Rattle.audit_deck.proofs.index.Index.is_dynamic.Given as goal

abbrev pub invariant-loop-place : goal.invariant-loop-place
invariant-loop-place l = NoneBefore (MakesDynamic l.self.devices l.roles l.net) l.place-items l.place-index
