use Rattle.event_sim.proofs.FollowedOrders.{following_is_by}
use Rattle.event_sim.proofs.laws.following_is_by.Goals as goal

pub returns : goal.returns
returns g c = following_is_by _
