-- The table of a part with the ordinary costs: the least sum of each shape, joined up from the tables of its arms.
use Rattle.std.specs.Prelude.{Contains, List, Option, option_map, ℕ, ◌+◌, ◌≤◌, ◌↔◌}
pub use Rattle.cover_plan.specs.CoverTables.{Entry, best, lower_of, lowest, same_shape, shapes, table_within}
use Rattle.cover_plan.specs.CoverTables as general
use Rattle.tree_map.specs.Covers.{CoverPart, IsLeast, Join, Operator, ordinary_costs}

-- an entry of the left arm with each of the right arm
abbrev pub combined : Operator → List Entry → List Entry → List Entry
combined = general.combined ordinary_costs

-- the entry of a pair that is cut, whose own least sum is this
abbrev pub cut_entry : Option ℕ → List Entry
cut_entry below = general.cut_entry (option_map (λ n. n + ordinary_costs.simple) below)

-- the entries of an arm: an end is a leaf, and a pair is kept with an entry of its table or cut
abbrev pub arm_entries : ℕ → ℕ → CoverPart → List Entry
arm_entries = general.arm_entries ordinary_costs

-- the table of a pair
abbrev pub table : ℕ → ℕ → Operator → CoverPart → CoverPart → List Entry
table = general.table ordinary_costs

-- the table of a part, joined up from the tables of its arms, has exactly the least sums over all covers
abbrev pub TablesAreLeast : Type 0
TablesAreLeast =
    (w h : ℕ) (op : Operator) (l r : CoverPart) (e : Entry) → 1 ≤ w → 1 ≤ h
    → Contains (table w h op l r) e ↔ IsLeast w h (Join op l r) e.shape e.sum
