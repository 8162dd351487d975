use Rattle.tree_map.specs.Ties.{NoneGiveBefore}
use Rattle.tree_map.proofs.ties.Wanted.first_offers.Given as goal

abbrev pub invariant-loop-left : goal.invariant-loop-left
invariant-loop-left l = NoneGiveBefore l.self l.lefts l.rights l.left-index
