use Rattle.domsyn.proofs.OneOutcome.{one_outcome}
use Rattle.domsyn.proofs.laws.outcome_is_one.Goals as goal

pub returns : goal.returns
returns c = one_outcome
