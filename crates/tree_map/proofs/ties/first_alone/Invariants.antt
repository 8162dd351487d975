use Rattle.tree_map.proofs.FirstLeast.{IsFirstOf}
use Rattle.tree_map.proofs.ties.first_alone.Given as goal

abbrev pub invariant-loop-offer : goal.invariant-loop-offer
invariant-loop-offer l = IsFirstOf l.offers l.offer-index l.first
