-- Sums of weights over all walks from a node of a directed graph.
use Rattle.std.specs.Prelude.{ℕ, zero, suc, ◌≡◌, ◌<◌, ◌≤◌, ◌+◌, ◌-◌, ◌^◌, min, List, length, Some, slice_get}
use Rattle.std.specs.List.{sum_by}
use Rattle.graph_order.specs.Orders.{successors}

-- the sum of the weights at the ends of all walks from a node that pass at most so many nodes, itself among them: the node's own
-- weight, and what the nodes that it leads to come to
abbrev pub walk_sum : List (List ℕ) → (ℕ → ℕ) → ℕ → ℕ → ℕ
walk_sum nodes weight zero node = 0
walk_sum nodes weight (suc depth) node = weight node + sum_by (walk_sum nodes weight depth) (successors nodes node)

-- the largest number of 64 bits
abbrev pub largest_u64 : ℕ
largest_u64 = 2 ^ 64 - 1

-- numbers that are weights, or the largest number where the weight is larger
pub record AreWeights (nodes : List (List ℕ)) (weight : ℕ → ℕ) (weights : List ℕ) : Type 0 where
  pub count : length weights ≡ length nodes
  pub weigh : (node w : ℕ) → slice_get weights node ≡ Some w → w ≡ min (weight node) largest_u64

-- the sums of all nodes to any depth that isn't below a bound, or the largest number where the sum is larger
pub record AreWalkSums (nodes : List (List ℕ)) (weight : ℕ → ℕ) (bound : ℕ) (sums : List ℕ) : Type 0 where
  pub count : length sums ≡ length nodes
  pub sum : (node s depth : ℕ) → slice_get sums node ≡ Some s → bound ≤ depth → s ≡ min (walk_sum nodes weight depth node) largest_u64

-- the same for the first so many nodes of an order, to any depth above a node's index
pub record AreSumsTo (nodes : List (List ℕ)) (weight : ℕ → ℕ) (order : List ℕ) (done : ℕ) (sums : List ℕ) : Type 0 where
  pub count : length sums ≡ length nodes
  pub sum : (k node s depth : ℕ) → k < done → slice_get order k ≡ Some node → slice_get sums node ≡ Some s → k < depth
      → s ≡ min (walk_sum nodes weight depth node) largest_u64
