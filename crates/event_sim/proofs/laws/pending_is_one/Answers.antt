use Rattle.event_sim.proofs.OneSettling.{pending_are_one}
use Rattle.event_sim.proofs.laws.pending_is_one.Goals as goal

pub returns : goal.returns
returns c = pending_are_one
