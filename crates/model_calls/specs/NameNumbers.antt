-- Names by numbers: a list of names that differ, where the number of a name is its index.
use Rattle.std.specs.Prelude.{ℕ, ◌≡◌, Bool, true, false, List, [], ◌∷◌, ◌++◌, length, Contains, Some, slice_get}

-- a name is added: it goes last and is new, or it is there
abbrev pub IsNameAdded : List (List ℕ) → List ℕ → List (List ℕ) → ℕ → Bool → Type 0
IsNameAdded before name after number true = (after ≡ before ++ name ∷ []) × (number ≡ length before) × (Contains before name → ⊥)
IsNameAdded before name after number false = (after ≡ before) × (slice_get before number ≡ Some name)
