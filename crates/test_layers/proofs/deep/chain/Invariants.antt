use Rattle.std.proofs.Common.{◌≡◌, ◌+◌, ◌<◌}
use Rattle.sp_network.specs.Tree.{EachLeaf, leaves}
use Rattle.sp_network.specs.TypedTree.{tree_of}
use Rattle.test_layers.proofs.deep.chain.Given as goal

abbrev pub invariant-loop : goal.invariant-loop
invariant-loop l = (leaves (tree_of l.tree) ≡ l.counter + 1) × EachLeaf (λ gate. gate < 1) (tree_of l.tree)
