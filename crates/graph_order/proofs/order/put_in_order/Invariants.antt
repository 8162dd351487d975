use Rattle.graph_order.specs.Traversals.{IsDoneBelow}
use Rattle.graph_order.proofs.order.put_in_order.Given as goal

abbrev pub invariant-loop-k : goal.invariant-loop-k
invariant-loop-k l = IsDoneBelow l.nodes l.k l.traversal
