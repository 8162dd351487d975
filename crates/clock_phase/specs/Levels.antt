-- The levels of cells and their clocks (Rabaey, Digital Integrated Circuits: domino logic).
use Rattle.std.specs.Prelude.{ℕ, ◌+◌, ◌-◌, ◌*◌, ◌/◌, ◌≤◌, ◌<◌, ◌≡◌, max, cond, nat_lt, List, [], ◌∷◌, ◌++◌, length, map, Some, slice_get, slice_index_or, Contains}
use Rattle.sp_network.specs.Tree.{Tree, Leaf, Series, Parallel}

-- the greatest of some numbers, or 0
abbrev pub greatest : List ℕ → ℕ
greatest [] = 0
greatest (n ∷ more) = max n (greatest more)

-- the cells whose outputs gate a tree, where so many leaves have the first gates, two each
abbrev pub cells_read : ℕ → Tree ℕ → List ℕ
cells_read leaf_count (Leaf gate) = cond (nat_lt gate (2 * leaf_count)) [] ((gate - 2 * leaf_count) ∷ [])
cells_read leaf_count (Series l r) = cells_read leaf_count l ++ cells_read leaf_count r
cells_read leaf_count (Parallel l r) = cells_read leaf_count l ++ cells_read leaf_count r

-- the level of each cell: 1 and the greatest level of the cells that it reads, or 1
pub record AreLevels (leaf_count : ℕ) (trees : List (Tree ℕ)) (levels : List ℕ) : Type 0 where
  pub one_each : length levels ≡ length trees
  pub levels_are : (k : ℕ) (tree : Tree ℕ) (level : ℕ)
      → slice_get trees k ≡ Some tree → slice_get levels k ≡ Some level
      → level ≡ 1 + greatest (map (λ cell. slice_index_or levels cell 0) (cells_read leaf_count tree))

-- the clock of a cell of this level, in a deck of so many clocks whose greatest level is given
abbrev pub clock_of : ℕ → ℕ → ℕ → ℕ
clock_of phases levels level = 1 + (level - 1) * phases / levels

-- the clock of each level is one of the deck's
abbrev pub ClocksAreInRange : Type 0
ClocksAreInRange =
    (phases levels level : ℕ) → 1 ≤ phases → 1 ≤ level → level ≤ levels
    → (1 ≤ clock_of phases levels level) × (clock_of phases levels level ≤ phases)

-- a later level has no earlier clock
abbrev pub ClocksRiseWithLevels : Type 0
ClocksRiseWithLevels =
    (phases levels a b : ℕ) → 1 ≤ levels → a - 1 ≤ b - 1 → clock_of phases levels a ≤ clock_of phases levels b

-- a cell has a higher level than each cell that it reads, and none has a level above the greatest
abbrev pub CellsReadLowerLevels : Type 0
CellsReadLowerLevels =
    (leaf_count : ℕ) (trees : List (Tree ℕ)) (levels : List ℕ) (k j : ℕ) (tree : Tree ℕ) (level read : ℕ)
    → AreLevels leaf_count trees levels
    → slice_get trees k ≡ Some tree → slice_get levels k ≡ Some level → slice_get levels j ≡ Some read
    → Contains (cells_read leaf_count tree) j → (read < level) × (level ≤ greatest levels)
