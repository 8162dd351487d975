-- Which numbers in a list have a property.
use Rattle.std.specs.Prelude.{List, Some, slice_get, ℕ, ◌<◌, ◌≡◌}

-- all numbers of the list have it before a place
abbrev pub AllBefore : (ℕ → Type 0) → List ℕ → ℕ → Type 0
AllBefore Q numbers i = (j p : ℕ) → j < i → slice_get numbers j ≡ Some p → Q p

-- of all numbers this one alone has the property
pub record IsOnlyIn (Q : ℕ → Type 0) (numbers : List ℕ) (x : ℕ) : Type 0 where
  pub place : ℕ
  pub at : slice_get numbers place ≡ Some x
  pub has : Q x
  pub only : (j p : ℕ) → slice_get numbers j ≡ Some p → Q p → p ≡ x
