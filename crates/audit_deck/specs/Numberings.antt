-- Nets that are met, numbered from 0 in the order in which they are.
use Rattle.std.specs.Prelude.{List, Some, [], length, slice_get, ℕ, ◌++◌, ◌<◌, ◌^◌, ◌∷◌, ◌≡◌, ◌≤◌, ◌⊎◌}

pub record NumberingData : Type 0 where
  pub room : ℕ
  pub nets : List ℕ

-- each net that is met has its place as its number; the numbers of other nets mean nothing
pub record IsNumbering (numbers nets : List ℕ) : Type 0 where
  pub few : length numbers < 2 ^ 32
  pub short : length nets ≤ length numbers
  pub at : (i n : ℕ) → slice_get nets i ≡ Some n → slice_get numbers n ≡ Some i

-- the net is one of the list
abbrev pub IsMet : List ℕ → ℕ → Type 0
IsMet nets n = (i : ℕ) × (slice_get nets i ≡ Some n)

-- the net is put at the end, where it isn't met yet
abbrev pub AddsOne : List ℕ → ℕ → List ℕ → Type 0
AddsOne before n after = (IsMet before n × (after ≡ before)) ⊎ ((IsMet before n → ⊥) × (after ≡ before ++ n ∷ []))
