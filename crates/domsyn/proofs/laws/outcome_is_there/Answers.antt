use Rattle.domsyn.proofs.OutcomeThere.{outcome_there}
use Rattle.domsyn.proofs.laws.outcome_is_there.Goals as goal

pub returns : goal.returns
returns c = outcome_there
