-- Forests as plain data.
use Rattle.std.specs.Prelude.{ℕ, Bool, List}
use Rattle.dual_rail.specs.declared.forest.Pair.{Pair}
use Rattle.dual_rail.specs.declared.forest.End.{End}

-- a forest as plain data over lists: pairs in order, the gate node and the sign of each, its number of uses, and
-- the end of each sink
pub record ForestData : Type 0 where
  pub leaves : ℕ
  pub pairs : List Pair
  pub origin : List (ℕ × Bool)
  pub uses : List ℕ
  pub ends : List End
