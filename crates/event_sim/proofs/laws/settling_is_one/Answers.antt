use Rattle.event_sim.proofs.OneSettling.{settling_is_one}
use Rattle.event_sim.proofs.laws.settling_is_one.Goals as goal

pub returns : goal.returns
returns c = settling_is_one
