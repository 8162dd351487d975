use Rattle.verdict_law.proofs.RightVerdicts.{realised_is_same}
use Rattle.verdict_law.proofs.laws.realised_is_same.Goals as goal

pub returns : goal.returns
returns c = realised_is_same
