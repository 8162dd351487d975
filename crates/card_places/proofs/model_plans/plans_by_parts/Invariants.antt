use Rattle.std.proofs.Common.{◌≡◌, take}
use Rattle.numbered_file.specs.Numbered.{models_in}
use Rattle.numbered_file.specs.Places.{first_part}
use Rattle.model_calls.specs.ModelCalls.{HavePlans}
use Rattle.card_places.proofs.model_plans.plans_by_parts.Given as goal

pub record Plans (l : goal.Live-loop-index) : Type 0 where
  pub start : l.start ≡ first_part l.file l.index
  pub plans : HavePlans (take l.index (models_in l.file)) l.nodes l.plans.items

abbrev pub invariant-loop-index : goal.invariant-loop-index
invariant-loop-index l = Plans l
