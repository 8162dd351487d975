use Rattle.compound_plan.proofs.CompoundCosts.{compound_costs_are}
use Rattle.compound_plan.proofs.LeastPlan.{chosen_plan_least}
use Rattle.compound_plan.proofs.OrdinaryPlans.{ordinary_plans_are_least}
use Rattle.compound_plan.proofs.PlanOne.{chosen_plan_one}
use Rattle.compound_plan.proofs.PlanThere.{chosen_plan_there}
use Rattle.compound_plan.proofs.laws.chosen_plan_is_least.Goals as goal

pub returns-clause-there : goal.returns-clause-there
returns-clause-there k = λ c forest w h wide tall order. chosen_plan_there c forest w h wide tall order

pub returns-clause-one : goal.returns-clause-one
returns-clause-one k = λ c forest w h kept split other marks cells more order a b. chosen_plan_one c forest w h kept split other marks cells more order a b

pub returns-clause-least : goal.returns-clause-least
returns-clause-least k = λ c forest w h kept split cells order is. chosen_plan_least c forest w h kept split cells order is

pub returns-clause-costs : goal.returns-clause-costs
returns-clause-costs k = compound_costs_are

pub returns-clause-ordinary : goal.returns-clause-ordinary
returns-clause-ordinary k = ordinary_plans_are_least
