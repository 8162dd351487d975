-- A list of elements that all differ is no longer than a list that has them all.
use Rattle.std.proofs.Common.{◌≡◌, ℕ, zero, suc, ◌≤◌, ◌+◌, ◌⊎◌, inl, inr, Bool, true, false, cond, List, [], ◌∷◌, length, refl, sym, ◌∙◌, subst, arith}
use Rattle.std.specs.Prelude.{◌≢◌, Contains}
use Rattle.std.specs.List.{AllByRecursion, list_any}
use Rattle.std.specs.Set.{unique_keys}
use Rattle.std.specs.Cmp.Lexicographic.{same_text}
use Rattle.std.proofs.lemmas.List.Elements.{Contains-append_cases}
use Rattle.std.proofs.lemmas.List.Folds.{Any-from_list_any}
use Rattle.dom_base.proofs.Lists.{AllByRecursion-both, AllByRecursion-weaker, Contains-first, Contains-later}
use Rattle.blif_ast.specs.Cards.{same}
use Rattle.model_calls.proofs.Apart.{Apart}

module _ {X : Type 0} where
  pub contains_cons : (x : X) (xs : List X) (y : X) → Contains (x ∷ xs) y → (x ≡ y) ⊎ Contains xs y
  contains_cons x xs y c = elim (Contains-append_cases (x ∷ []) xs y c) [ inl h ↦ inl (one h) | inr h ↦ inr h ]
    where
      one : Contains (x ∷ []) y → x ≡ y
      one (zero, l, e) = e
      one (suc k, l, e) = absurd (omega (arith, l))

  -- a list without one place of an element
  abbrev Without : List X → X → Type 0
  Without xs y = (rest : List X) × (length xs ≡ length rest + 1) × ((z : X) → Contains xs z → y ≢ z → Contains rest z)

  without : (xs : List X) (y : X) → Contains xs y → Without xs y
  without [] y (k, l, e) = absurd (omega (arith, l))
  without (x ∷ xs) y c = by (without xs y) (contains_cons x xs y c)
    where
      by : (Contains xs y → Without xs y) → (x ≡ y) ⊎ Contains xs y → Without (x ∷ xs) y
      by deeper (inl is) = (xs, omega arith, λ z d apart. elim (contains_cons x xs z d) [ inl same ↦ absurd (apart (sym is ∙ same)) | inr later ↦ later ])
      by deeper (inr later) = let w = deeper later in (
        x ∷ w.0,
        omega (arith, w.1),
        λ z d apart. elim (contains_cons x xs z d) [
          | inl same ↦ subst (Contains (x ∷ w.0)) same (Contains-first x w.0)
          | inr rest ↦ Contains-later x w.0 z (w.2 z rest apart)
        ],
      )

  pub fits : (ys xs : List X) → Apart ys → AllByRecursion (Contains xs) ys → length ys ≤ length xs
  fits [] xs a h = omega arith
  fits (y ∷ ys) xs a h =
      let w = without xs y h.0 in
      let rest = fits ys w.0 a.1 (AllByRecursion-weaker (λ z. (y ≢ z) × Contains xs z) (Contains w.0) (λ z p. w.2 z p.1 p.0) ys (AllByRecursion-both (λ z. y ≢ z) (Contains xs) ys a.0 h.1)) in
      omega (arith, rest, w.1)

-- a name that stands in a list stands in it once where each is taken once
pub contains_unique : (names : List (List ℕ)) (name : List ℕ) → Contains names name → Contains (unique_keys same names) name
contains_unique [] name (k, l, e) = absurd (omega (arith, l))
contains_unique (x ∷ xs) name c = by (contains_unique xs) (list_any (same x) xs) refl (contains_cons x xs name c)
  where
    again : list_any (same x) xs ≡ true → Contains xs x
    again e = let a = Any-from_list_any (same x) xs e in subst (Contains xs) (sym (same_text x a.1 (sym a.4))) (a.0, a.2, a.3)

    by : ((n : List ℕ) → Contains xs n → Contains (unique_keys same xs) n) → (t : Bool) → list_any (same x) xs ≡ t → (x ≡ name) ⊎ Contains xs name
        → Contains (cond (list_any (same x) xs) (unique_keys same xs) (x ∷ unique_keys same xs)) name
    by deeper true e (inl is) = rw e (deeper name (subst (Contains xs) is (again e)))
    by deeper true e (inr later) = rw e (deeper name later)
    by deeper false e (inl is) = rw e (subst (Contains (x ∷ unique_keys same xs)) is (Contains-first x (unique_keys same xs)))
    by deeper false e (inr later) = rw e (Contains-later x (unique_keys same xs) name (deeper name later))
