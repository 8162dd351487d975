-- The levels of signals as far as they were found, in an order in which each signal stands behind those that it depends on.
use Rattle.std.specs.Prelude.{ℕ, ◌≡◌, ◌≤◌, ◌+◌, max, Bool, true, false, List, length, map, take, Contains, Some, slice_get}
use Rattle.std.specs.List.{fold}
use Rattle.graph_order.specs.Orders.{successors}
use Rattle.net_flatten.specs.Dependences.{level_at}

-- the level that a number has by those of its successors
abbrev pub level_by : List (List ℕ) → List ℕ → ℕ → ℕ
level_by nodes levels number = 1 + fold max 0 (map (level_at levels) (successors nodes number))

-- the levels of the numbers before an index of the order
pub record AreLevelsSoFar (nodes : List (List ℕ)) (order : List ℕ) (tables : List Bool) (signals index : ℕ) (levels : List ℕ) : Type 0 where
  pub count : length levels ≡ signals
  pub done : (number : ℕ) → Contains (take index order) number → slice_get tables number ≡ Some true → level_at levels number ≡ level_by nodes levels number
  pub others : (number : ℕ) → slice_get tables number ≡ Some false → level_at levels number ≡ 0
  pub low : (number : ℕ) → level_at levels number ≤ index
