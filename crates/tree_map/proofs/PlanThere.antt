-- The plan that the ties choose is there.
use Rattle.std.proofs.Common.{refl}
use Rattle.cover_plan.specs.Covers.{ordinary_costs}
use Rattle.compound_plan.proofs.OrdinaryPlans.{ordinary_there}
use Rattle.tree_map.specs.LeastPlans.{ChosenPlanIsThere}

pub chosen_plan_there : ChosenPlanIsThere
chosen_plan_there = λ forest w h wide tall order. ordinary_there ordinary_costs refl forest w h wide tall order
