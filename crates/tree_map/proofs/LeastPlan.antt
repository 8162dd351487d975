-- The plan that the ties choose costs least.
use Rattle.std.proofs.Common.{refl}
use Rattle.cover_plan.specs.Covers.{ordinary_costs}
use Rattle.compound_plan.proofs.OrdinaryPlans.{ordinary_least}
use Rattle.tree_map.specs.LeastPlans.{ChosenPlanIsLeast}

pub chosen_plan_least : ChosenPlanIsLeast
chosen_plan_least = λ forest w h kept trees order is. ordinary_least ordinary_costs refl forest w h kept trees order is
