-- What signals depend on through tables, by numbers, and the levels that come of it.
use Rattle.std.specs.Prelude.{ℕ, ◌≡◌, ◌+◌, max, Bool, true, false, List, length, map, Contains, slice_get, slice_index_or, Some}
use Rattle.std.specs.List.{fold}
use Rattle.graph_order.specs.Orders.{IsSuccessor, successors}
use Rattle.part_numbers.specs.declared.numbered.PartCard.{PartCard}
use Rattle.part_numbers.specs.declared.numbered.PartCard.TheVariants.{Table, Latch as LatchAt}
use Rattle.part_numbers.specs.NumberedFiles.{NumberedPartData}

-- a card is a table
abbrev pub is_table : PartCard → Bool
is_table (Table index) = true
is_table (LatchAt index) = false

-- a table among some parts drives a number
pub record IsDrivingTable (parts : List NumberedPartData) (number : ℕ) (p : NumberedPartData) : Type 0 where
  pub there : Contains parts p
  pub table : is_table p.card ≡ true
  pub drives_is : p.drives ≡ number

-- no two parts drive one number
abbrev pub AreDrivenOnce : List NumberedPartData → Type 0
AreDrivenOnce parts = (j k : ℕ) (p q : NumberedPartData) → slice_get parts j ≡ Some p → slice_get parts k ≡ Some q → p.drives ≡ q.drives → j ≡ k

-- a node for each number, which leads to what the table that drives it reads, if one does
pub record AreDependences (signals : ℕ) (parts : List NumberedPartData) (nodes : List (List ℕ)) : Type 0 where
  pub count : length nodes ≡ signals
  pub reads : (number : ℕ) (p : NumberedPartData) → IsDrivingTable parts number p → successors nodes number ≡ p.reads
  pub only : (a b : ℕ) → IsSuccessor nodes a b → (p : NumberedPartData) × IsDrivingTable parts a p × Contains p.reads b

-- the level of a number
abbrev pub level_at : List ℕ → ℕ → ℕ
level_at levels number = slice_index_or levels number 0

-- a level for each number: 1 and the greatest level of what the table reads that drives it, and 0 where no table does
pub record AreTableLevels (signals : ℕ) (parts : List NumberedPartData) (levels : List ℕ) : Type 0 where
  pub count : length levels ≡ signals
  pub tables : (number : ℕ) (p : NumberedPartData) → IsDrivingTable parts number p → level_at levels number ≡ 1 + fold max 0 (map (level_at levels) p.reads)
  pub others : (number : ℕ) → ((p : NumberedPartData) → IsDrivingTable parts number p → ⊥) → level_at levels number ≡ 0
