use Rattle.net_run.proofs.OneRun.{one_run}
use Rattle.net_run.proofs.laws.one_run.Goals as goal

pub returns : goal.returns
returns c = one_run
