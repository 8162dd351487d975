use Rattle.switch_model.proofs.Targets.{target_exists, target_unique}
use Rattle.switch_model.proofs.laws.has_one_target.Goals as goal

pub returns-clause-some : goal.returns-clause-some
returns-clause-some c = target_exists

pub returns-clause-one : goal.returns-clause-one
returns-clause-one c = target_unique
