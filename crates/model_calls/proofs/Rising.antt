-- Lists in order of a number rise, and keep their elements.
use Rattle.std.proofs.Common.{◌≡◌, ℕ, zero, suc, ◌<◌, ◌≤◌, ◌+◌, Bool, true, false, List, [], ◌∷◌, Some, refl, ap, sym, ◌∙◌, arith}
use Rattle.std.specs.Prelude.{nat_lt, slice_get, if◌then◌else◌}
use Rattle.std.specs.List.{AllByRecursion, sum_by}
use Rattle.std.proofs.lemmas.Bool.{ltb-false, ltb-true}
use Rattle.std.proofs.lemmas.List.Sums.{sum_by-cons}
use Rattle.dom_base.proofs.Lists.{AllByRecursion-contains, AllByRecursion-weaker, Contains-slice_get}
use Rattle.model_calls.specs.Ordered.{in_order, with_element}
use Rattle.model_calls.proofs.Apart.{each_with}

module _ {X : Type 0} (n : X → ℕ) where
  abbrev pub Rising : List X → Type 0
  Rising [] = Unit {0}
  Rising (x ∷ xs) = AllByRecursion (λ y. n x ≤ n y) xs × Rising xs

  below : (a b : ℕ) → nat_lt a b ≡ true → a < b
  below a b e = ltb-true a b e

  not_below : (a b : ℕ) → nat_lt a b ≡ false → b ≤ a
  not_below a b e = ltb-false a b e

  rising_with : (e : X) (xs : List X) → Rising xs → Rising (with_element n e xs)
  rising_with e [] r = (tt, tt)
  rising_with e (x ∷ xs) r = by (rising_with e xs r.1) (nat_lt (n x) (n e)) refl
    where
      by : Rising (with_element n e xs) → (b : Bool) → nat_lt (n x) (n e) ≡ b → Rising (if b then x ∷ with_element n e xs else e ∷ x ∷ xs)
      by rest true t = (each_with n (λ y. n x ≤ n y) e xs (let l = below (n x) (n e) t in omega (arith, l)) r.0, rest)
      by rest false t = let l = not_below (n x) (n e) t in
          ((l, AllByRecursion-weaker (λ y. n x ≤ n y) (λ y. n e ≤ n y) (λ y h. omega (arith, l, h)) xs r.0), r)

  pub rising_in_order : (xs : List X) → Rising (in_order n xs)
  rising_in_order [] = tt
  rising_in_order (x ∷ xs) = rising_with x (in_order n xs) (rising_in_order xs)

  pub rising_places : (xs : List X) → Rising xs → (j k : ℕ) (x y : X) → j ≤ k → slice_get xs j ≡ Some x → slice_get xs k ≡ Some y → n x ≤ n y
  rising_places [] r j k x y l e d = absurd cc
  rising_places (z ∷ zs) r zero zero x y l e d = let i : Some x ≡ Some y = sym e ∙ d in let same : x ≡ y = cc in omega (arith, ap n same)
  rising_places (z ∷ zs) r zero (suc k) x y l e d = let i : z ≡ x = cc in
      omega (arith, ap n i, AllByRecursion-contains (λ w. n z ≤ n w) zs y r.0 (Contains-slice_get zs k y d))
  rising_places (z ∷ zs) r (suc j) zero x y l e d = absurd (omega (arith, l))
  rising_places (z ∷ zs) r (suc j) (suc k) x y l e d = rising_places zs r.1 j k x y (omega (arith, l)) e d

  sum_with : (g : X → ℕ) (e : X) (xs : List X) → sum_by g (with_element n e xs) ≡ g e + sum_by g xs
  sum_with g e [] = sum_by-cons g e []
  sum_with g e (x ∷ xs) = by (sum_with g e xs) (nat_lt (n x) (n e))
    where
      by : sum_by g (with_element n e xs) ≡ g e + sum_by g xs → (b : Bool) → sum_by g (if b then x ∷ with_element n e xs else e ∷ x ∷ xs) ≡ g e + sum_by g (x ∷ xs)
      by rest true = omega (arith, rest, sum_by-cons g x (with_element n e xs), sum_by-cons g x xs)
      by rest false = omega (arith, sum_by-cons g e (x ∷ xs))

  pub sum_in_order : (g : X → ℕ) (xs : List X) → sum_by g (in_order n xs) ≡ sum_by g xs
  sum_in_order g [] = refl
  sum_in_order g (x ∷ xs) = omega (arith, sum_with g x (in_order n xs), sum_in_order g xs, sum_by-cons g x xs)
