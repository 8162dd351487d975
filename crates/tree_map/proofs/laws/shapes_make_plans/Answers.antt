use Rattle.tree_map.proofs.DecidedPlan.{decided_plan}
use Rattle.tree_map.proofs.PlanShapes.{plan_there}
use Rattle.tree_map.proofs.laws.shapes_make_plans.Goals as goal

pub returns-clause-plan : goal.returns-clause-plan
returns-clause-plan c = plan_there

pub returns-clause-chosen : goal.returns-clause-chosen
returns-clause-chosen c = decided_plan
