-- Lists of which one element is set, one is appended, or a front is taken; and the places of many nodes that are set to one.
use Rattle.std.proofs.Common.{◌≡◌, ℕ, zero, suc, ◌<◌, ◌≤◌, ◌+◌, ◌-◌, ◌⊎◌, inl, inr, List, [], ◌∷◌, ◌++◌, length, take, drop, set, Some, refl, ap, sym, ◌∙◌, subst, arith}
use Rattle.std.specs.Prelude.{Contains, slice_get}
use Rattle.std.proofs.lemmas.Bool.{cases_eq}
use Rattle.std.proofs.lemmas.List.{length-set, take_all}
use Rattle.std.proofs.lemmas.List.Elements.{Contains-append_cases}
use Rattle.std.proofs.lemmas.Option.{slice_get_within}
use Rattle.dom_base.proofs.Lists.{Contains-first, Contains-later, Contains-slice_get, slice_get-contained, slice_get-set_other}
use Rattle.graph_order.proofs.Lists.{contains_cons, take_next}
use Rattle.graph_order.specs.declared.components.Place.{Place}
use Rattle.graph_order.specs.declared.components.Place.TheVariants.{Within}
use Rattle.graph_order.specs.ComponentSearches.{all_within}

module _ {X : Type 0} where
  pub set_here : (xs : List X) (k : ℕ) (y : X) → k < length xs → slice_get (set xs k y) k ≡ Some y
  set_here [] k y l = absurd (omega (arith, l))
  set_here (x ∷ xs) zero y l = refl
  set_here (x ∷ xs) (suc k) y l = set_here xs k y (omega (arith, l))

  -- what stands below a place stands in the front up to it
  pub in_front : (xs : List X) (k j : ℕ) (x : X) → j < k → slice_get xs j ≡ Some x → slice_get (take k xs) j ≡ Some x
  in_front [] k j x l e = absurd cc
  in_front (y ∷ ys) zero j x l e = absurd (omega (arith, l))
  in_front (y ∷ ys) (suc k) zero x l e = e
  in_front (y ∷ ys) (suc k) (suc j) x l e = in_front ys k j x (omega (arith, l)) e

  -- what stands from a place on
  pub behind : (xs : List X) (k j : ℕ) (x : X) → k ≤ j → slice_get xs j ≡ Some x → Contains (drop k xs) x
  behind [] k j x l e = absurd cc
  behind (y ∷ ys) zero j x l e = Contains-slice_get (y ∷ ys) j x e
  behind (y ∷ ys) (suc k) zero x l e = absurd (omega (arith, l))
  behind (y ∷ ys) (suc k) (suc j) x l e = behind ys k j x (omega (arith, l)) e

  pub from_behind : (xs : List X) (k : ℕ) (x : X) → Contains (drop k xs) x → (j : ℕ) × (k ≤ j) × (slice_get xs j ≡ Some x)
  from_behind [] zero x c = absurd (omega (arith, c.1))
  from_behind [] (suc k) x c = absurd (omega (arith, c.1))
  from_behind (y ∷ ys) zero x c = let h = slice_get-contained (y ∷ ys) x c in (h.0, omega arith, h.1)
  from_behind (y ∷ ys) (suc k) x c = let h = from_behind ys k x c in (suc h.0, omega (arith, h.1), h.2)

  pub contains_push : (xs : List X) (x y : X) → Contains (xs ++ x ∷ []) y → Contains xs y ⊎ (x ≡ y)
  contains_push xs x y c = elim (Contains-append_cases xs (x ∷ []) y c) [
    | inl h ↦ inl h
    | inr h ↦ elim (contains_cons x [] y h) [ inl is ↦ inr is | inr none ↦ absurd (omega (arith, none.1)) ]
  ]

  pub one_at : (xs : List X) (i j : ℕ) (x y : X) → slice_get xs i ≡ Some x → slice_get xs j ≡ Some y → i ≡ j → x ≡ y
  one_at xs i j x y e f is = let z : Some x ≡ Some y = sym e ∙ ap (slice_get xs) is ∙ f in cc

  -- a list whose last element is known
  pub split_last : (xs front : List X) (x : X) → front ≡ take (length xs - 1) xs → slice_get xs (length xs - 1) ≡ Some x
      → xs ≡ front ++ x ∷ []
  split_last xs front x is e =
      sym (take_all (length xs - 1 + 1) xs (omega arith)) ∙ take_next xs (length xs - 1) x e ∙ ap (λ l. l ++ x ∷ []) (sym is)

pub all_within-length : (places : List Place) (nodes : List ℕ) (first : ℕ) → length (all_within places nodes first) ≡ length places
all_within-length places [] first = refl
all_within-length places (n ∷ nodes) first =
    all_within-length (set places n (Within first)) nodes first ∙ length-set places n (Within first)

pub all_within-other : (places : List Place) (nodes : List ℕ) (first x : ℕ) → (Contains nodes x → ⊥)
    → slice_get (all_within places nodes first) x ≡ slice_get places x
all_within-other places [] first x out = refl
all_within-other places (n ∷ nodes) first x out =
    all_within-other (set places n (Within first)) nodes first x (λ c. out (Contains-later n nodes x c))
    ∙ slice_get-set_other places n x (Within first) (λ is. out (subst (Contains (n ∷ nodes)) (sym is) (Contains-first n nodes)))

-- a node that is within the component stays there
all_within-kept : (places : List Place) (nodes : List ℕ) (first x : ℕ) → slice_get places x ≡ Some (Within first)
    → slice_get (all_within places nodes first) x ≡ Some (Within first)
all_within-kept places [] first x e = e
all_within-kept places (n ∷ nodes) first x e = all_within-kept (set places n (Within first)) nodes first x (by (cases_eq x n))
  where
    by : (x ≡ n) ⊎ (x ≡ n → ⊥) → slice_get (set places n (Within first)) x ≡ Some (Within first)
    by (inl is) = subst (λ k. slice_get (set places n (Within first)) k ≡ Some (Within first)) (sym is)
        (set_here places n (Within first) (inside (subst (λ k. slice_get places k ≡ Some (Within first)) is e)))
      where
        inside : slice_get places n ≡ Some (Within first) → n < length places
        inside at = slice_get_within places n (Within first) at
    by (inr apart) = slice_get-set_other places n x (Within first) apart ∙ e

pub all_within-here : (places : List Place) (nodes : List ℕ) (first x : ℕ) → Contains nodes x → x < length places
    → slice_get (all_within places nodes first) x ≡ Some (Within first)
all_within-here places [] first x c l = absurd (omega (arith, c.1))
all_within-here places (n ∷ nodes) first x c l = elim (contains_cons n nodes x c) [
  | inl is ↦ all_within-kept (set places n (Within first)) nodes first x
      (subst (λ k. slice_get (set places n (Within first)) k ≡ Some (Within first)) is
      (set_here places n (Within first) (omega (arith, l, is))))
  | inr later ↦ all_within-here (set places n (Within first)) nodes first x later (omega (arith, l, length-set places n (Within first)))
]
