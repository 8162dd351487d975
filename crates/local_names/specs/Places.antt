-- Numbers that stand in a list, each at a place that is known.
use Rattle.std.specs.Prelude.{ℕ, ◌≡◌, ◌<◌, ◌⊎◌, List, [], ◌∷◌, ◌++◌, Some, Contains, length, reverse, slice_get}
use Rattle.std.specs.List.{IsDistinct}
use Rattle.std.specs.Set.{unique_keys}
use Rattle.blif_ast.specs.Cards.{same}
use Rattle.numbered_file.specs.Numbered.{named}

-- the place of each number of a list
abbrev pub IsIndexed : List ℕ → List ℕ → Type 0
IsIndexed numbers place = (i n : ℕ) → slice_get numbers i ≡ Some n → slice_get place n ≡ Some i

-- a number that goes into a list at its end unless it is there, with a place for each number of the list
pub record IsNoted (before after place : List ℕ) (number : ℕ) : Type 0 where
  pub within : number < length place
  pub indexed : IsIndexed after place
  pub kept : (Contains before number × (after ≡ before))
      ⊎ ((Contains before number → ⊥) × (after ≡ before ++ number ∷ []))

-- a list has the numbers of these names, each once as the last of those that are equal, from the last one on
abbrev pub AreKept : List (List ℕ) → List ℕ → List (List ℕ) → Type 0
AreKept names kept all = named names kept ≡ reverse (unique_keys same all)

-- numbers go into a list at its end, where they are not there, so that it has in front of what it had these names
abbrev pub AreNoted : List (List ℕ) → List (List ℕ) → List ℕ → List ℕ → Type 0
AreNoted names more before after = (all : List (List ℕ)) → AreKept names before all → AreKept names after (more ++ all)

-- the same of any names that are so many and that differ
abbrev pub AreNotedOf : ℕ → (List (List ℕ) → List (List ℕ)) → List ℕ → List ℕ → Type 0
AreNotedOf count more before after = (names : List (List ℕ)) → IsDistinct same names → length names ≡ count
    → AreNoted names (more names) before after
