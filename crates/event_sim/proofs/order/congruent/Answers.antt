use Rattle.std.proofs.Common.{◌*◌, ◌^◌}
use Rattle.event_sim.specs.Orders.{congruent}
use Rattle.event_sim.proofs.ThreeOrders.{cut_each_time}
use Rattle.event_sim.proofs.order.congruent.Goals as goal

pub returns : goal.returns
unfolding congruent
returns c = cut_each_time (c.args.step * 6364136223846793005) c.args.seed 1442695040888963407 (2 ^ 64)
