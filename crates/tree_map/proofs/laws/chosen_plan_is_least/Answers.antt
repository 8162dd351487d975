use Rattle.tree_map.proofs.LeastPlan.{chosen_plan_least}
use Rattle.tree_map.proofs.PlanOne.{chosen_plan_one}
use Rattle.tree_map.proofs.PlanThere.{chosen_plan_there}
use Rattle.tree_map.proofs.laws.chosen_plan_is_least.Goals as goal

pub returns-clause-one : goal.returns-clause-one
returns-clause-one c = λ forest w h kept other trees more order a b. chosen_plan_one forest w h kept other trees more order a b

pub returns-clause-least : goal.returns-clause-least
returns-clause-least c = λ forest w h kept trees order is. chosen_plan_least forest w h kept trees order is

pub returns-clause-there : goal.returns-clause-there
returns-clause-there c = λ forest w h wide tall order. chosen_plan_there forest w h wide tall order
