-- Sets of numbers below a bound, as a mark for each number.
use Rattle.std.specs.Prelude.{ℕ, ◌≡◌, Bool, true, false, List, length, Contains, Some, slice_get}

-- the marks of all numbers below a bound say which of them stand in a list
pub record IsSetOf (bound : ℕ) (numbers : List ℕ) (marks : List Bool) : Type 0 where
  pub length_is : length marks ≡ bound
  pub marked : (k : ℕ) → slice_get marks k ≡ Some true → Contains numbers k
  pub unmarked : (k : ℕ) → slice_get marks k ≡ Some false → Contains numbers k → ⊥
