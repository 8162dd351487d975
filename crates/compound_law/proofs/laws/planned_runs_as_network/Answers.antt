use Rattle.compound_law.proofs.PlannedShapes.{planned_runs_as_network}
use Rattle.compound_law.proofs.laws.planned_runs_as_network.Goals as goal

pub returns : goal.returns
returns c = planned_runs_as_network
