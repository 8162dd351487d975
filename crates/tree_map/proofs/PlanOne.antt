-- The plan that the ties choose is one.
use Rattle.std.proofs.Common.{refl}
use Rattle.cover_plan.specs.Covers.{ordinary_costs}
use Rattle.compound_plan.proofs.OrdinaryPlans.{ordinary_one}
use Rattle.tree_map.specs.LeastPlans.{ChosenPlanIsOne}
pub use Rattle.compound_plan.proofs.PlanTrees.{arm_tree_one, tree_one}

pub chosen_plan_one : ChosenPlanIsOne
chosen_plan_one = λ forest w h kept other trees more order a b. ordinary_one ordinary_costs refl forest w h kept other trees more order a b
