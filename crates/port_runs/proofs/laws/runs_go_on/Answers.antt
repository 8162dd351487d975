use Rattle.port_runs.proofs.GoingOn.{periods_last, runs_go_on}
use Rattle.port_runs.proofs.laws.runs_go_on.Goals as goal

pub returns-clause-runs : goal.returns-clause-runs
returns-clause-runs c = runs_go_on

pub returns-clause-periods : goal.returns-clause-periods
returns-clause-periods c = periods_last
