use Rattle.audit_deck.specs.Indexes.{AreThose}
use Rattle.audit_deck.proofs.LocalLinks.{OtherBefore}
use Rattle.audit_deck.proofs.trees.others.Given as goal

abbrev pub invariant-loop-place : goal.invariant-loop-place
invariant-loop-place l = AreThose (OtherBefore l.places l.one l.place-index) l.rest.items
