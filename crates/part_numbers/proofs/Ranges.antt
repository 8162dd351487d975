-- Numbers in a row, and lists by their places.
use Rattle.std.proofs.Common.{◌≡◌, ℕ, zero, suc, ◌<◌, ◌≤◌, ◌+◌, ◌⊎◌, inl, inr, List, [], ◌∷◌, map, length, take, Some, refl, ap, ◌∙◌, subst, arith}
use Rattle.std.specs.Prelude.{◌≢◌, Contains, slice_get, slice_index_or}
use Rattle.std.specs.List.{AllByRecursion, enumerate_from}
use Rattle.std.proofs.lemmas.Bool.{cases_eq}
use Rattle.dom_base.proofs.Lists.{AllByRecursion-weaker, Contains-first, Contains-later}
use Rattle.model_calls.proofs.Apart.{Apart}
use Rattle.part_numbers.specs.Ranges.{row}

pub row_bounds : (a m : ℕ) → AllByRecursion (λ k. (a ≤ k) × (k < a + m)) (row a m)
row_bounds a zero = tt
row_bounds a (suc m) = ((omega arith, omega arith), AllByRecursion-weaker (λ k. (a + 1 ≤ k) × (k < a + 1 + m)) (λ k. (a ≤ k) × (k < a + suc m)) (λ k h. (omega (arith, h.0), omega (arith, h.1))) (row (a + 1) m) (row_bounds (a + 1) m))

pub row_apart : (a m : ℕ) → Apart (row a m)
row_apart a zero = tt
row_apart a (suc m) = (AllByRecursion-weaker (λ k. (a + 1 ≤ k) × (k < a + 1 + m)) (λ k. a ≢ k) (λ k h e. omega (arith, h.0, e)) (row (a + 1) m) (row_bounds (a + 1) m), row_apart (a + 1) m)

pub row_contains : (a m k : ℕ) → a ≤ k → k < a + m → Contains (row a m) k
row_contains a zero k l h = absurd (omega (arith, l, h))
row_contains a (suc m) k l h = by (λ apart. row_contains (a + 1) m k (omega (arith, l, apart)) (omega (arith, h))) (cases_eq a k)
  where
    by : (a ≢ k → Contains (row (a + 1) m) k) → (a ≡ k) ⊎ (a ≢ k) → Contains (a ∷ row (a + 1) m) k
    by later (inl is) = subst (Contains (a ∷ row (a + 1) m)) is (Contains-first a (row (a + 1) m))
    by later (inr apart) = Contains-later a (row (a + 1) m) k (later apart)

pub length_row : (a m : ℕ) → length (row a m) ≡ m
length_row a zero = refl
length_row a (suc m) = omega (arith, length_row (a + 1) m)

row_suc : {X : Type 0} (g : ℕ → X) (a m : ℕ) → map (λ k. g (suc k)) (row a m) ≡ map g (row (a + 1) m)
row_suc g a zero = refl
row_suc g a (suc m) = ap (λ k. g k ∷ map (λ k. g (suc k)) (row (a + 1) m)) (let z : suc a ≡ a + 1 = omega arith in z) ∙ ap (λ l. g (a + 1) ∷ l) (row_suc g (a + 1) m)

-- the front of a list by its places
pub take_by_row : {X : Type 0} (d : X) (xs : List X) (m : ℕ) → m ≤ length xs → take m xs ≡ map (λ k. slice_index_or xs k d) (row 0 m)
take_by_row d [] zero l = refl
take_by_row d [] (suc m) l = absurd (omega (arith, l))
take_by_row d (x ∷ xs) zero l = refl
take_by_row d (x ∷ xs) (suc m) l = ap (λ r. x ∷ r) (take_by_row d xs m (omega (arith, l)) ∙ row_suc (λ k. slice_index_or (x ∷ xs) k d) 0 m)

-- numbers of the places of a list
pub enumerated_row : {X : Type 0} (a k : ℕ) (xs : List X) → map (λ (p : ℕ × X). a + p.0) (enumerate_from k xs) ≡ row (a + k) (length xs)
enumerated_row a k [] = refl
enumerated_row a k (x ∷ xs) = ap (λ l. (a + k) ∷ l) (enumerated_row a (k + 1) xs ∙ ap (λ n. row n (length xs)) (let z : a + (k + 1) ≡ a + k + 1 = omega arith in z))

-- what holds of each element with its place
pub each_enumerated : {X : Type 0} (P : ℕ × X → Type 0) (n : ℕ) (xs : List X) → ((k : ℕ) (x : X) → slice_get xs k ≡ Some x → P (n + k, x)) → AllByRecursion P (enumerate_from n xs)
each_enumerated P n [] h = tt
each_enumerated P n (x ∷ xs) h = (
  subst (λ m. P (m, x)) (let z : n + 0 ≡ n = omega arith in z) (h 0 x refl),
  each_enumerated P (n + 1) xs (λ k y e. subst (λ m. P (m, y)) (let z : n + suc k ≡ n + 1 + k = omega arith in z) (h (suc k) y e)),
)

pub map_map : {X Y Z : Type 0} (g : Y → Z) (h : X → Y) (xs : List X) → map g (map h xs) ≡ map (λ x. g (h x)) xs
map_map g h [] = refl
map_map g h (x ∷ xs) = ap (λ l. g (h x) ∷ l) (map_map g h xs)
