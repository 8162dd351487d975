use Rattle.compound_plan.proofs.OrdinaryPlans.{ordinary_plans_are_chosen}
use Rattle.compound_plan.proofs.laws.ordinary_plans_are_chosen.Goals as goal

pub returns : goal.returns
returns k = ordinary_plans_are_chosen
