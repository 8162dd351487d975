use Rattle.tree_map.specs.Ties.{NoneGives}
use Rattle.tree_map.proofs.ties.Wanted.first_right.Given as goal

abbrev pub invariant-loop-right : goal.invariant-loop-right
invariant-loop-right l = NoneGives l.self l.left l.rights l.right-index
