use Rattle.numbered_file.specs.Numbered.{between, parts_of}
use Rattle.card_places.proofs.PartPlans.{IsPlanSoFar}
use Rattle.card_places.proofs.model_plans.plan_model.Given as goal

abbrev pub invariant-loop-index : goal.invariant-loop-index
invariant-loop-index l = IsPlanSoFar (between l.start l.end (parts_of l.file)) l.node l.index l.cards.items l.counts
