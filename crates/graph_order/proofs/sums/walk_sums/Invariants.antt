use Rattle.std.proofs.Common.{◌≡◌, ℕ, length, take}
use Rattle.graph_order.specs.WalkSums.{AreSumsTo, AreWeights}
use Rattle.graph_order.proofs.sums.walk_sums.Given as goal

abbrev pub invariant-loop-weight : goal.invariant-loop-weight
invariant-loop-weight l = l.sums.items ≡ take l.weight-index l.weights

abbrev pub invariant-loop-node : goal.invariant-loop-node
invariant-loop-node l = (length l.sums.items ≡ length l.nodes) × ((weight : ℕ → ℕ) → AreWeights l.nodes weight l.weights → AreSumsTo l.nodes weight l.order l.node-index l.sums.items)
