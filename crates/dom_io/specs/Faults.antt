-- Counts of faults.
use Rattle.std.specs.Prelude.{ℕ, ◌+◌, ◌-◌, ◌^◌, ◌≤◌, min}

-- the next value of a count that stops at the last `u64`
abbrev pub next_count : ℕ → ℕ
next_count n = min (n + 1) (2 ^ 64 - 1)

-- a count rose, or stands at its end
abbrev pub Rose : ℕ → ℕ → Type 0
Rose before now = next_count before ≤ now
