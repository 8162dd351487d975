use Rattle.std.proofs.Common.{◌≡◌, length, take}
use Rattle.graph_order.specs.ComponentSearches.{all_within}
use Rattle.graph_order.proofs.components.put_within.Given as goal

abbrev pub invariant-loop-node : goal.invariant-loop-node
invariant-loop-node l = (l.places ≡ all_within l.fn.places (take l.node-index l.nodes) l.first) × (length l.places ≡ length l.fn.places)
