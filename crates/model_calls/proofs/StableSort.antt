-- What a stable sort by a number leaves is the list in order of the number.
use Rattle.std.proofs.Common.{◌≡◌, ℕ, suc, ◌<◌, ◌≤◌, ◌⊎◌, inl, inr, Bool, true, false, cond, not, nat_lt, List, [], ◌∷◌, filter, refl, ap, sym, ◌∙◌, subst, arith}
use Rattle.std.specs.Prelude.{◌&&◌, ◌==◌, Contains, if◌then◌else◌}
use Rattle.std.specs.List.Sorted.{IsNonDecreasingBy, IsSortedByKey, IsStableByKey, ties}
use Rattle.std.specs.Ordering.{is_lt, nat_cmp}
use Rattle.std.specs.declared.cmp.Ordering.TheVariants.{Equal, Greater, Less}
use Rattle.std.proofs.lemmas.Bool.{cases_lt, le-ltb, lt-ltb, ltb-true, true≢false}
use Rattle.std.proofs.lemmas.List.Elements.{recursion_from_All}
use Rattle.std.proofs.lemmas.List.Sorted.{IsNonDecreasingBy-from_sort}
use Rattle.dom_base.proofs.Lists.{AllByRecursion-contains, Contains-first, Contains-later}
use Rattle.model_calls.specs.Ordered.{in_order, with_element}
use Rattle.model_calls.proofs.Fitting.{contains_cons}
use Rattle.model_calls.proofs.Rising.{Rising, rising_in_order}

less_is : (a b : ℕ) → is_lt (nat_cmp a b) ≡ nat_lt a b
less_is a b = by (nat_lt a b) (a == b)
  where
    by : (t s : Bool) → is_lt (cond t Less (cond s Equal Greater)) ≡ t
    by true s = refl
    by false true = refl
    by false false = refl

module _ {X : Type 0} (key : X → ℕ) where
  abbrev tie : X → X → Bool
  tie x y = ties (λ a b. is_lt (nat_cmp (key a) (key b))) x y

  tie_is : (x y : X) → tie x y ≡ (not (nat_lt (key x) (key y)) && not (nat_lt (key y) (key x)))
  tie_is x y = ap (λ t. not t && not (is_lt (nat_cmp (key y) (key x)))) (less_is (key x) (key y)) ∙ ap (λ t. not (nat_lt (key x) (key y)) && not t) (less_is (key y) (key x))

  tie_same : (x y : X) → key x ≡ key y → tie x y ≡ true
  tie_same x y e = tie_is x y ∙ ap (λ t. not t && not (nat_lt (key y) (key x))) (le-ltb (key x) (key y) (omega (arith, e))) ∙ ap not (le-ltb (key y) (key x) (omega (arith, e)))

  same_tie : (x y : X) → tie x y ≡ true → key x ≡ key y
  same_tie x y e = by (cases_lt (key x) (key y)) (cases_lt (key y) (key x))
    where
      both : (not (nat_lt (key x) (key y)) && not (nat_lt (key y) (key x))) ≡ true
      both = sym (tie_is x y) ∙ e

      first : (t s : Bool) → nat_lt (key x) (key y) ≡ true → nat_lt (key x) (key y) ≡ t → (not t && not s) ≡ true → ⊥
      first true s a b c = true≢false (sym c)
      first false s a b c = true≢false (sym a ∙ b)

      second : (t s : Bool) → nat_lt (key y) (key x) ≡ true → nat_lt (key y) (key x) ≡ s → (not t && not s) ≡ true → ⊥
      second true s a b c = true≢false (sym c)
      second false true a b c = true≢false (sym c)
      second false false a b c = true≢false (sym a ∙ b)

      by : (key x < key y) ⊎ (key y ≤ key x) → (key y < key x) ⊎ (key x ≤ key y) → key x ≡ key y
      by (inl l) q = absurd (first (nat_lt (key x) (key y)) (nat_lt (key y) (key x)) (lt-ltb (key x) (key y) l) refl both)
      by (inr p) (inl l) = absurd (second (nat_lt (key x) (key y)) (nat_lt (key y) (key x)) (lt-ltb (key y) (key x) l) refl both)
      by (inr p) (inr q) = omega (arith, p, q)

  -- what a filter leaves first stands in the list
  filter_head : (p : X → Bool) (xs : List X) (y : X) (r : List X) → filter p xs ≡ y ∷ r → Contains xs y
  filter_head p [] y r e = absurd cc
  filter_head p (x ∷ xs) y r e = by (filter_head p xs y r) (p x) refl
    where
      by : (filter p xs ≡ y ∷ r → Contains xs y) → (t : Bool) → p x ≡ t → Contains (x ∷ xs) y
      by deeper true d =
          let f : cond true (x ∷ filter p xs) (filter p xs) ≡ y ∷ r = ap (λ t. cond t (x ∷ filter p xs) (filter p xs)) (sym d) ∙ e in
          let i : x ≡ y = cc in subst (Contains (x ∷ xs)) i (Contains-first x xs)
      by deeper false d = Contains-later x xs y (deeper (ap (λ t. cond t (x ∷ filter p xs) (filter p xs)) (sym d) ∙ e))

  at_most : (z : X) (zs : List X) (y : X) → Rising key (z ∷ zs) → Contains (z ∷ zs) y → key z ≤ key y
  at_most z zs y r c = elim (contains_cons z zs y c) [ inl is ↦ omega (arith, ap key is) | inr later ↦ AllByRecursion-contains (λ w. key z ≤ key w) zs y r.0 later ]

  filter_tie : (x : X) (xs : List X) → filter (tie x) (x ∷ xs) ≡ x ∷ filter (tie x) xs
  filter_tie x xs = ap (λ t. cond t (x ∷ filter (tie x) xs) (filter (tie x) xs)) (tie_same x x refl)

  abbrev SameTies : List X → List X → Type 0
  SameTies ys zs = (x : X) → filter (tie x) ys ≡ filter (tie x) zs

  tails : (y : X) (ys zs : List X) → SameTies (y ∷ ys) (y ∷ zs) → SameTies ys zs
  tails y ys zs f = λ x. by x (tie x y) refl (f x)
    where
      by : (x : X) → (t : Bool) → tie x y ≡ t → cond (tie x y) (y ∷ filter (tie x) ys) (filter (tie x) ys) ≡ cond (tie x y) (y ∷ filter (tie x) zs) (filter (tie x) zs) → filter (tie x) ys ≡ filter (tie x) zs
      by x true d e = let g : y ∷ filter (tie x) ys ≡ y ∷ filter (tie x) zs = subst (λ t. cond t (y ∷ filter (tie x) ys) (filter (tie x) ys) ≡ cond t (y ∷ filter (tie x) zs) (filter (tie x) zs)) d e in cc
      by x false d e = subst (λ t. cond t (y ∷ filter (tie x) ys) (filter (tie x) ys) ≡ cond t (y ∷ filter (tie x) zs) (filter (tie x) zs)) d e

  -- rising lists with the same elements of each number, in the same order, are equal
  rising_once : (ys zs : List X) → Rising key ys → Rising key zs → SameTies ys zs → ys ≡ zs
  rising_once [] [] r s f = refl
  rising_once [] (z ∷ zs) r s f = let e = f z ∙ filter_tie z zs in absurd cc
  rising_once (y ∷ ys) [] r s f = let e = sym (f y) ∙ filter_tie y ys in absurd cc
  rising_once (y ∷ ys) (z ∷ zs) r s f =
      let a = at_most z zs y s (filter_head (tie y) (z ∷ zs) y (filter (tie y) ys) (sym (f y) ∙ filter_tie y ys)) in
      let b = at_most y ys z r (filter_head (tie z) (y ∷ ys) z (filter (tie z) zs) (f z ∙ filter_tie z zs)) in
      let same_key : key y ≡ key z = omega (arith, a, b) in
      let heads : y ∷ filter (tie y) ys ≡ z ∷ filter (tie y) zs = sym (filter_tie y ys) ∙ f y ∙ ap (λ t. cond t (z ∷ filter (tie y) zs) (filter (tie y) zs)) (tie_same y z same_key) in
      let i : y ≡ z = cc in
      ap (λ w. w ∷ ys) i ∙ ap (λ l. z ∷ l) (rising_once ys zs r.1 s.1 (tails z ys zs (λ x. ap (λ w. filter (tie x) (w ∷ ys)) (sym i) ∙ f x)))

  -- putting in order keeps the elements of each number, and their order
  with_ties : (x e : X) (xs : List X) → filter (tie x) (with_element key e xs) ≡ filter (tie x) (e ∷ xs)
  with_ties x e [] = refl
  with_ties x e (n ∷ more) = by (with_ties x e more) (nat_lt (key n) (key e)) refl
    where
      turned : key n < key e → (t s : Bool) → tie x e ≡ t → tie x n ≡ s
          → cond s (n ∷ cond t (e ∷ filter (tie x) more) (filter (tie x) more)) (cond t (e ∷ filter (tie x) more) (filter (tie x) more))
          ≡ cond t (e ∷ cond s (n ∷ filter (tie x) more) (filter (tie x) more)) (cond s (n ∷ filter (tie x) more) (filter (tie x) more))
      turned l true true a b = absurd (omega (arith, l, same_tie x e a, same_tie x n b))
      turned l true false a b = refl
      turned l false true a b = refl
      turned l false false a b = refl

      by : filter (tie x) (with_element key e more) ≡ filter (tie x) (e ∷ more) → (t : Bool) → nat_lt (key n) (key e) ≡ t
          → filter (tie x) (if t then n ∷ with_element key e more else e ∷ n ∷ more) ≡ filter (tie x) (e ∷ n ∷ more)
      by deeper true d = ap (λ l. cond (tie x n) (n ∷ l) l) deeper ∙ turned (ltb-true (key n) (key e) d) (tie x e) (tie x n) refl refl
      by deeper false d = refl

  pub in_order_ties : (x : X) (xs : List X) → filter (tie x) (in_order key xs) ≡ filter (tie x) xs
  in_order_ties x [] = refl
  in_order_ties x (e ∷ more) = with_ties x e (in_order key more) ∙ ap (λ l. cond (tie x e) (e ∷ l) l) (in_order_ties x more)

  rising_from : (xs : List X) → IsNonDecreasingBy key xs → Rising key xs
  rising_from [] h = tt
  rising_from (x ∷ xs) h = (recursion_from_All (λ y. key x ≤ key y) xs (λ k d l. h 0 (suc k) d (omega arith) (omega (arith, l))), rising_from xs (λ i j d l m. h (suc i) (suc j) d (omega (arith, l)) (omega (arith, m))))

  pub sorted_in_order : (xs ys : List X) → IsSortedByKey key nat_cmp ys → IsStableByKey key nat_cmp xs ys → ys ≡ in_order key xs
  sorted_in_order xs ys sorted stable = rising_once ys (in_order key xs) (rising_from ys (IsNonDecreasingBy-from_sort key ys sorted)) (rising_in_order key xs) (λ x. stable x ∙ sym (in_order_ties x xs))
