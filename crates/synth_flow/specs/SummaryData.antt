-- The figures of a deck as plain data.
use Rattle.std.specs.Prelude.{ℕ, List}

-- the figures as plain data: ports and latches, needed pairs, cells and devices, and the cells of each clock
pub record SummaryData : Type 0 where
  pub inputs : ℕ
  pub outputs : ℕ
  pub latches : ℕ
  pub pairs : ℕ
  pub both : ℕ
  pub minus : ℕ
  pub cells : ℕ
  pub levels : ℕ
  pub cost : ℕ
  pub devices : ℕ
  pub clocks : List ℕ
