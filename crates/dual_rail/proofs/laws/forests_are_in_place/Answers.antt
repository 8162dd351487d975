use Rattle.dual_rail.proofs.ForestOrders.{forests_are_in_place}
use Rattle.dual_rail.proofs.laws.forests_are_in_place.Goals as goal

pub returns : goal.returns
returns c = forests_are_in_place
