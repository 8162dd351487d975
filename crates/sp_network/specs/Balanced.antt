-- Balanced expressions: an operator over the two halves of a list of items.
use Rattle.std.specs.Prelude.{ℕ, zero, suc, ◌+◌, ◌/◌, List, [], ◌∷◌, length, take, drop}

-- how many of so many items stand in the first half, which is the larger one where the halves differ
abbrev pub first_half : ℕ → ℕ
first_half m = (m + 1) / 2

-- the same as `balanced`, with at most so many operators one below the other
abbrev pub balanced_within : {T : Type 0} → ℕ → (T → T → T) → T → List T → T
balanced_within zero op none xs = none
balanced_within (suc n) op none [] = none
balanced_within (suc n) op none (x ∷ []) = x
balanced_within (suc n) op none (x ∷ y ∷ more) =
    op (balanced_within n op none (take (first_half (length (x ∷ y ∷ more))) (x ∷ y ∷ more)))
    (balanced_within n op none (drop (first_half (length (x ∷ y ∷ more))) (x ∷ y ∷ more)))

-- the balanced expression of some items: an item by itself, and else the operator on that of the
-- first half and that of the rest; without items `none`
abbrev pub balanced : {T : Type 0} → (T → T → T) → T → List T → T
balanced op none xs = balanced_within (length xs) op none xs
