-- What stands at the indices of a list, and lists without repetition.
use Rattle.std.specs.List.{AllByRecursion}
use Rattle.std.specs.Prelude.{Some, slice_get, ◌≢◌}
use Rattle.std.proofs.Common.{List, [], ap, arith, refl, suc, sym, zero, ℕ, ◌<◌, ◌∷◌, ◌≡◌}
use Rattle.std.proofs.lemmas.Option.{same_Some}
use Rattle.dom_base.proofs.Lists.{AllByRecursion-contains, AllByRecursion-weaker, Contains-slice_get}
use Rattle.circuit_law.specs.Counts.{Distinct}

-- what holds at each index holds of all
pub all_from : (P : ℕ → Type 0) (xs : List ℕ) → ((i x : ℕ) → slice_get xs i ≡ Some x → P x) → AllByRecursion P xs
all_from P [] h = tt
all_from P (x ∷ xs) h = (h 0 x refl, all_from P xs (λ i y e. h (suc i) y e))

-- equal elements of a list without repetition stand at one place
pub distinct_at : (xs : List ℕ) → Distinct xs → (i j x : ℕ) → slice_get xs i ≡ Some x → slice_get xs j ≡ Some x → i ≡ j
distinct_at [] d i j x e f = absurd (cc)
distinct_at (y ∷ xs) d zero zero x e f = refl
distinct_at (y ∷ xs) d zero (suc j) x e f = absurd (AllByRecursion-contains (λ m. m ≢ y) xs x d.0 (Contains-slice_get xs j x f) (same_Some _ _ (sym e)))
distinct_at (y ∷ xs) d (suc i) zero x e f = absurd (AllByRecursion-contains (λ m. m ≢ y) xs x d.0 (Contains-slice_get xs i x e) (same_Some _ _ (sym f)))
distinct_at (y ∷ xs) d (suc i) (suc j) x e f = ap (λ n. suc n) (distinct_at xs d.1 i j x e f)

-- each element of the list is below the one before it
abbrev pub Falls : ℕ → List ℕ → Type 0
Falls n [] = Unit {0}
Falls n (x ∷ xs) = (x < n) × Falls x xs

below : (n : ℕ) (xs : List ℕ) → Falls n xs → AllByRecursion (λ m. m < n) xs
below n [] h = tt
below n (x ∷ xs) h = (h.0, AllByRecursion-weaker (λ m. m < x) (λ m. m < n) (λ m l. omega (arith, l, h.0)) xs (below x xs h.1))

pub falls_distinct : (n : ℕ) (xs : List ℕ) → Falls n xs → Distinct xs
falls_distinct n [] h = tt
falls_distinct n (x ∷ xs) h = (AllByRecursion-weaker (λ m. m < x) (λ m. m ≢ x) (λ m l e. omega (arith, l, e)) xs (below x xs h.1), falls_distinct x xs h.1)
