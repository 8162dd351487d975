use Rattle.switch_model.proofs.Nearness.{near-same}
use Rattle.switch_model.proofs.laws.depends_on_near_nets.Goals as goal

pub returns : goal.returns
returns c = near-same
