-- The cells of a deck before it has buffers, and the last reader of each (Harris and Horowitz, Skew-tolerant domino circuits).
use Rattle.std.specs.Prelude.{All, List, if◌then◌else◌, length, max, slice_index_or, ℕ, ◌*◌, ◌+◌, ◌<◌, ◌^◌, ◌≡◌, ◌≤◌}
use Rattle.std.specs.List.{range_with_len}
use Rattle.clock_phase.specs.Levels.{greatest}
use Rattle.clock_phase.specs.Plans.{CellPlan, ReadEarlierCells, trees_of}
use Rattle.phase_buffer.specs.BufferedPlans.{HaveClocksUpTo, is_among, plan_cells, plan_of_gates}
use Rattle.phase_buffer.specs.Chains.{Cells, reader_clocks}
use Rattle.phase_buffer.specs.declared.unbuffered.Unbuffered.{Unbuffered}

abbrev pub old_cells : Unbuffered → Cells CellPlan
old_cells u = plan_cells (plan_of_gates u.leaves u.phases u.plans.now u.sinks.now)

abbrev pub old_numbers : Unbuffered → List ℕ
old_numbers u = range_with_len 0 (length u.plans.now)

-- at most four clocks, and numbers for the gates of four cells in the place of each; cells read earlier cells, and sinks take from cells
pub record IsChainable (u : Unbuffered) : Type 0 where
  pub few_phases : u.phases ≤ 4
  pub room : 2 * u.leaves + 4 * length u.plans.now < 2 ^ 32
  pub clocks : HaveClocksUpTo u.phases u.plans.now
  pub earlier : ReadEarlierCells u.leaves (trees_of u.plans.now)
  pub sinks : All (λ cell. cell < length u.plans.now) u.sinks.now

-- the clock of the last reader of a cell, or 0; a sink reads it after the last clock
abbrev pub last_reader : Unbuffered → ℕ → ℕ
last_reader u k = if is_among k u.sinks.now then u.phases + 1 else greatest (reader_clocks (old_cells u) k (old_cells u).cells)

-- the clocks of the last readers after one more reader, of this clock, of these cells
pub record AreRaised (clock : ℕ) (cells old new : List ℕ) : Type 0 where
  pub one_each : length new ≡ length old
  pub raised : (k : ℕ) → k < length old
      → slice_index_or new k 0 ≡ (if is_among k cells then max (slice_index_or old k 0) clock else slice_index_or old k 0)
