-- Kinds of faults that have numbers: of several faults of a line the one with the smallest number is reported.
use Rattle.std.specs.Prelude.{◌≡◌, ◌⊎◌, ◌<◌, ◌≤◌, ℕ, Bool, true, false, List, [], ◌∷◌, Option, Some, None}

-- one of these kinds
abbrev pub IsAmong : {Kind : Type 0} → Kind → List Kind → Type 0
IsAmong kind [] = ⊥
IsAmong kind (k ∷ ks) = (kind ≡ k) ⊎ IsAmong kind ks

module _ {Kind : Type 0} (number_of : Kind → ℕ) where
  -- the numbers of these kinds rise, above this one
  abbrev pub RisesAbove : ℕ → List Kind → Type 0
  RisesAbove n [] = Unit {0}
  RisesAbove n (k ∷ ks) = (n < number_of k) × RisesAbove (number_of k) ks

  -- no kind that passes a test, or the one of the smallest number
  abbrev pub IsSmallest : (Kind → Bool) → Option Kind → Type 0
  IsSmallest test None = (kind : Kind) → test kind ≡ false
  IsSmallest test (Some k) = (test k ≡ true) × ((kind : Kind) → test kind ≡ true → number_of k ≤ number_of kind)
