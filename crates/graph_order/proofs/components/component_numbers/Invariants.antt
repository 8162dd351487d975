use Rattle.graph_order.specs.ComponentSearches.{HasMetBelow}
use Rattle.graph_order.proofs.ComponentEnds.{AreNames}
use Rattle.graph_order.proofs.components.component_numbers.Given as goal

abbrev pub invariant-loop-k : goal.invariant-loop-k
invariant-loop-k l = HasMetBelow l.nodes l.k l.search

abbrev pub invariant-loop-place : goal.invariant-loop-place
invariant-loop-place l = AreNames l.place-items l.place-index l.numbers.items
