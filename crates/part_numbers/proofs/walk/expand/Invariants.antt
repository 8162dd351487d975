use Rattle.blif_ast.specs.BlifFileData.{BlifFileData}
use Rattle.model_calls.specs.Plans.{IsPlanned}
use Rattle.part_numbers.specs.Expansions.{AreFramesRanked, MakesExpansion, work}
use Rattle.part_numbers.proofs.walk.expand.Given as goal

abbrev pub invariant-frames : goal.invariant-frames
invariant-frames l = AreFramesRanked l.plans l.made × ((f : BlifFileData) → IsPlanned f l.plans → MakesExpansion f l.depth l.made)

abbrev pub decreases-frames : goal.decreases-frames
decreases-frames l = work l.plans l.made
