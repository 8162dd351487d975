-- A sink with room as plain data.
use Rattle.std.specs.Prelude.{ℕ, ◌+◌, ◌≤◌, List, length}

-- a sink that never fails: the bytes taken, and the most of all
pub record SureSinkData : Type 0 where
  pub taken : List ℕ
  pub size : ℕ

-- there is room for so many bytes more
abbrev pub HasRoom : SureSinkData → ℕ → Type 0
HasRoom s n = length s.taken + n ≤ s.size

-- the bytes taken fit, and the memory for all is there
pub record IsSureSink (taken size capacity : ℕ) : Type 0 where
  pub within : taken ≤ size
  pub room : size ≤ capacity
