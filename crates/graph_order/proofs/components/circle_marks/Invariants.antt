use Rattle.graph_order.proofs.CircleMarks.{AreMarksBelow}
use Rattle.graph_order.proofs.components.circle_marks.Given as goal

abbrev pub invariant-loop-k : goal.invariant-loop-k
invariant-loop-k l = AreMarksBelow l.nodes l.k l.marks.items
