use Rattle.event_sim.proofs.ThreeOrders.{orders_are_below}
use Rattle.event_sim.proofs.laws.orders_are_below.Goals as goal

pub returns : goal.returns
returns c = orders_are_below
