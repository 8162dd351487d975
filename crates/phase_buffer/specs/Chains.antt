-- Chains of buffers between cells whose clocks are apart, by what each cell reads and which clock it has: each cell is followed by a
-- buffer for each clock up to the one before its last reader's, or up to the last clock where a sink takes from it (Harris and
-- Horowitz, Skew-tolerant domino circuits).
use Rattle.std.specs.Prelude.{Bool, List, None, Option, Some, [], if◌then◌else◌, slice_get, suc, zero, ℕ, ◌++◌, ◌+◌, ◌-◌, ◌∷◌}
use Rattle.clock_phase.specs.Levels.{greatest}

-- cells of any kind in order, on clocks from a first to a last: the clock of each, whether it reads cell k, and whether a sink takes
-- from cell k
pub record Cells (Cell : Type 0) : Type 0 where
  pub first : ℕ
  pub last : ℕ
  pub cells : List Cell
  pub clock : Cell → ℕ
  pub reads : ℕ → Cell → Bool
  pub is_taken : ℕ → Bool
  -- a buffer that reads this cell, on this clock
  pub buffer : ℕ → ℕ → Cell
  -- the cell that reads others in the place of those that it reads
  pub reading : (ℕ → ℕ) → Cell → Cell

module _ {Cell : Type 0} (d : Cells Cell) where
  -- the clocks of the cells that read cell k
  abbrev pub reader_clocks : ℕ → List Cell → List ℕ
  reader_clocks k [] = []
  reader_clocks k (c ∷ cells) = if d.reads k c then d.clock c ∷ reader_clocks k cells else reader_clocks k cells

  abbrev pub clock_at : Option Cell → ℕ
  clock_at None = d.first
  clock_at (Some c) = d.clock c

  -- the last clock of the chain of cell k: the last of all where a sink takes from the cell, or the one before its last reader's
  abbrev pub chain_last : ℕ → ℕ
  chain_last k = if d.is_taken k then d.last else greatest (reader_clocks k d.cells) - 1

  -- how many buffers follow cell k
  abbrev pub chain_length : ℕ → ℕ
  chain_length k = chain_last k - clock_at (slice_get d.cells k)

  -- the new number of cell k: the cells before it and their buffers come first
  abbrev pub place : ℕ → ℕ
  place zero = 0
  place (suc k) = place k + 1 + chain_length k

  -- and that of the last of its chain, from which sinks take
  abbrev pub end_at : ℕ → ℕ
  end_at k = place k + chain_length k

  -- so many buffers, each of the next clock, from the cell at this place on
  abbrev pub chain : ℕ → ℕ → ℕ → List Cell
  chain at clock zero = []
  chain at clock (suc n) = d.buffer at (clock + 1) ∷ chain (at + 1) (clock + 1) n

  -- a reader of this clock takes cell j itself, or its buffer of the clock before
  abbrev pub taken_at : ℕ → ℕ → ℕ
  taken_at clock j = place j + (clock - 1 - clock_at (slice_get d.cells j))

  abbrev pub moved : Cell → Cell
  moved c = d.reading (taken_at (d.clock c)) c

  -- the cells from number k on, each with its chain
  abbrev pub with_chains : ℕ → List Cell → List Cell
  with_chains k [] = []
  with_chains k (c ∷ cells) = moved c ∷ (chain (place k) (d.clock c) (chain_length k) ++ with_chains (suc k) cells)
