-- What a chooser may be asked and answers.
use Rattle.std.specs.Prelude.{ℕ, ◌<◌, ◌≤◌, ◌^◌}

-- it may be asked at every step and every count of at least 1, and answers below the count
pub record Chooses (pre : ℕ → ℕ → Type 0) (post : ℕ → ℕ → ℕ → Type 0) : Type 0 where
  pub callable : (step count : ℕ) → step < 2 ^ 64 → 1 ≤ count → count < 2 ^ 64 → pre step count
  pub below : (step count place : ℕ) → step < 2 ^ 64 → 1 ≤ count → count < 2 ^ 64 → post step count place → place < count
