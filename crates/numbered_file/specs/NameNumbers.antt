-- What becomes of a list of names where the numbers of names are asked for.
use Rattle.std.specs.Prelude.{ℕ, ◌≡◌, ◌⊎◌, false, List, [], ◌∷◌, ◌++◌}
use Rattle.std.specs.List.{list_any}
use Rattle.blif_ast.specs.Cards.{same}

-- names that are added at the end
abbrev pub Grows : List (List ℕ) → List (List ℕ) → Type 0
Grows before after = (more : List (List ℕ)) × (after ≡ before ++ more)

-- at most this name is added, at the end, and only where it isn't among them
abbrev pub AddsAtMost : List ℕ → List (List ℕ) → List (List ℕ) → Type 0
AddsAtMost name before after = (after ≡ before) ⊎ ((list_any (same name) before ≡ false) × (after ≡ before ++ name ∷ []))
