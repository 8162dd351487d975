use Rattle.tree_map.proofs.FirstShapes.{IsFirstBelow}
use Rattle.tree_map.proofs.offers.root_of.Given as goal

abbrev pub invariant-loop-index : goal.invariant-loop-index
invariant-loop-index l = IsFirstBelow l.sums l.place l.index l.first l.least
