use Rattle.graph_order.specs.Traversals.{IsVisiting, remaining}
use Rattle.graph_order.proofs.traversal.Traversal.visit.Given as goal

abbrev pub invariant-frames : goal.invariant-frames
invariant-frames l = IsVisiting l.nodes l.node l.fn.self l.self

abbrev pub decreases-frames : goal.decreases-frames
decreases-frames l = remaining l.nodes l.self
