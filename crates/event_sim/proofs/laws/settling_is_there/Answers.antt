use Rattle.event_sim.proofs.SettlingThere.{settling_there}
use Rattle.event_sim.proofs.laws.settling_is_there.Goals as goal

pub returns : goal.returns
returns c = settling_there
