-- Balanced expressions by their halves.
use Rattle.std.proofs.Common.{◌≡◌, ℕ, zero, suc, ◌≤◌, List, [], ◌∷◌, length, map, take, drop, refl, ◌∙◌, arith, length-take, length-drop}
use Rattle.std.proofs.lemmas.List.{take-map, drop-map, length-map}
use Rattle.sp_network.specs.Balanced.{balanced, balanced_within, first_half}

-- enough operators are as many as there are items
pub balanced-within : {T : Type 0} (op : T → T → T) (none : T) (n m : ℕ) (xs : List T) → length xs ≤ n → length xs ≤ m → balanced_within n op none xs ≡ balanced_within m op none xs
balanced-within op none zero zero xs few few' = refl
balanced-within op none zero (suc m) [] few few' = refl
balanced-within op none zero (suc m) (x ∷ xs) few few' = absurd (omega arith)
balanced-within op none (suc n) zero [] few few' = refl
balanced-within op none (suc n) zero (x ∷ xs) few few' = absurd (omega arith)
balanced-within op none (suc n) (suc m) [] few few' = refl
balanced-within op none (suc n) (suc m) (x ∷ []) few few' = refl
balanced-within op none (suc n) (suc m) (x ∷ y ∷ more) few few' =
    let h : ℕ = first_half (length (x ∷ y ∷ more)) in
    let front = length-take h (x ∷ y ∷ more) in
    let back = length-drop h (x ∷ y ∷ more) in
    rw (balanced-within op none n m (take h (x ∷ y ∷ more)) (omega arith) (omega arith), balanced-within op none n m (drop h (x ∷ y ∷ more)) (omega arith) (omega arith)) refl

pub balanced-halves : {T : Type 0} (op : T → T → T) (none : T) (xs : List T) → 2 ≤ length xs
    → balanced op none xs ≡ op (balanced op none (take (first_half (length xs)) xs)) (balanced op none (drop (first_half (length xs)) xs))
balanced-halves op none [] some = absurd (omega arith)
balanced-halves op none (x ∷ []) some = absurd (omega arith)
balanced-halves op none (x ∷ y ∷ more) some =
    let h : ℕ = first_half (length (x ∷ y ∷ more)) in
    let front = length-take h (x ∷ y ∷ more) in
    let back = length-drop h (x ∷ y ∷ more) in
    rw (
      balanced-within op none (length (y ∷ more)) (length (take h (x ∷ y ∷ more))) (take h (x ∷ y ∷ more)) (omega arith) (omega arith),
      balanced-within op none (length (y ∷ more)) (length (drop h (x ∷ y ∷ more))) (drop h (x ∷ y ∷ more)) (omega arith) (omega arith),
    ) refl

-- what holds of one item, and of a list where it holds of its halves, holds of each list of items
pub by_halves : {A : Type 0} (P : List A → Type 0) → ((x : A) → P (x ∷ []))
    → ((xs : List A) → 2 ≤ length xs → P (take (first_half (length xs)) xs) → P (drop (first_half (length xs)) xs) → P xs)
    → (n : ℕ) (xs : List A) → 1 ≤ length xs → length xs ≤ n → P xs
by_halves P one more zero xs some few = absurd (omega arith)
by_halves P one more (suc n) [] some few = absurd (omega arith)
by_halves P one more (suc n) (x ∷ []) some few = one x
by_halves P one more (suc n) (x ∷ y ∷ xs) some few =
    let h : ℕ = first_half (length (x ∷ y ∷ xs)) in
    let front = length-take h (x ∷ y ∷ xs) in
    let back = length-drop h (x ∷ y ∷ xs) in
    more (x ∷ y ∷ xs) (omega arith) (by_halves P one more n (take h (x ∷ y ∷ xs)) (omega arith) (omega arith)) (by_halves P one more n (drop h (x ∷ y ∷ xs)) (omega arith) (omega arith))

pub balanced-map : {A T : Type 0} (op : T → T → T) (none : T) (f : A → T) (xs : List A) → 2 ≤ length xs
    → balanced op none (map f xs) ≡ op (balanced op none (map f (take (first_half (length xs)) xs))) (balanced op none (map f (drop (first_half (length xs)) xs)))
balanced-map op none f xs some =
    let count = length-map xs f in
    let halves = balanced-halves op none (map f xs) (omega (arith, count)) in
    halves ∙ rw (count, take-map f (first_half (length xs)) xs, drop-map f (first_half (length xs)) xs) refl
