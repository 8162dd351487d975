use Rattle.graph_order.proofs.CircleMarks.{NoneHasBefore}
use Rattle.graph_order.proofs.components.has_one_of.Given as goal

abbrev pub invariant-loop-node : goal.invariant-loop-node
invariant-loop-node l = NoneHasBefore l.numbers l.number l.nodes l.node-index
