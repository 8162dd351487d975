use Rattle.std.proofs.Common.{◌+◌}
use Rattle.graph_order.specs.ComponentSearches.{AreMetBelow, steps_left}
use Rattle.graph_order.proofs.components.ComponentSearch.visit.Given as goal

abbrev pub invariant-stops : goal.invariant-stops
invariant-stops l = AreMetBelow l.nodes (l.node + 1) l.self

abbrev pub decreases-stops : goal.decreases-stops
decreases-stops l = steps_left l.nodes l.self
