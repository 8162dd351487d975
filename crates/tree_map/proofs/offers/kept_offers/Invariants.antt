use Rattle.tree_map.proofs.KeptOffers.{AreKeptBelow}
use Rattle.tree_map.proofs.offers.kept_offers.Given as goal

abbrev pub invariant-loop-index : goal.invariant-loop-index
invariant-loop-index l = AreKeptBelow l.sums l.place l.index l.offers.items
