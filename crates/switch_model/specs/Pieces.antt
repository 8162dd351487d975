-- A list in pieces, one behind the other.
use Rattle.std.specs.Prelude.{◌≡◌, ◌≤◌, ℕ, List, [], ◌∷◌}
use Rattle.std.specs.List.{slice_range}

-- the pieces between one start and the next
abbrev pub pieces : List ℕ → List ℕ → List (List ℕ)
pieces [] xs = []
pieces (a ∷ []) xs = []
pieces (a ∷ b ∷ starts) xs = slice_range xs a b ∷ pieces (b ∷ starts) xs

-- starts that do not fall, up to the end
abbrev pub RisesUpTo : List ℕ → ℕ → Type 0
RisesUpTo [] end = ⊥
RisesUpTo (a ∷ []) end = a ≡ end
RisesUpTo (a ∷ b ∷ starts) end = (a ≤ b) × RisesUpTo (b ∷ starts) end
