use Rattle.chosen_law.proofs.OwnReadings.{reads_own_run}
use Rattle.chosen_law.proofs.laws.chosen_runs_read_own_run.Goals as goal

pub returns : goal.returns
returns c = reads_own_run
