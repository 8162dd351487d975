-- Shelves and sinks in memory as plain data.
use Rattle.std.specs.Prelude.{ℕ, ◌≡◌, ◌≢◌, ◌≤◌, List, [], Option, length}
use Rattle.dom_io.specs.Asked.{Asking}

-- a shelf in memory: names with their bytes, the calls that are to fail, what was asked for so far, where it is told, and the counts
pub record ShelfData : Type 0 where
  pub files : List (List ℕ × List ℕ)
  pub fails : List ℕ
  pub asked : Option (List Asking)
  pub calls : ℕ
  pub faults : ℕ

-- a sink in memory: the bytes taken, the most of a call and of all, the calls that are to fail, and the counts
pub record SinkData : Type 0 where
  pub taken : List ℕ
  pub most : ℕ
  pub size : ℕ
  pub fails : List ℕ
  pub calls : ℕ
  pub faults : ℕ

-- a piece has bytes, and a sink in memory has no room for any
abbrev pub IsFullFor : List ℕ → SinkData → Type 0
IsFullFor piece s = (piece ≢ []) × (length s.taken ≡ s.size)

-- a sink in memory takes something of each piece, and its memory is there
pub record IsSink (most taken size capacity : ℕ) : Type 0 where
  pub some : 1 ≤ most
  pub within : taken ≤ size
  pub room : size ≤ capacity
