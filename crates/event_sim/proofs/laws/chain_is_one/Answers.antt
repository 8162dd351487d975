use Rattle.event_sim.proofs.OneSettling.{chain_is_one}
use Rattle.event_sim.proofs.laws.chain_is_one.Goals as goal

pub returns : goal.returns
returns c = chain_is_one
