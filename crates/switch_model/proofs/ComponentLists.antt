-- Lists by number, and lists of numbers that rise.
use Rattle.std.proofs.Common.{◌≡◌, ◌≢◌, ℕ, ◌+◌, ◌<◌, ◌≤◌, List, [], ◌∷◌, ◌++◌, ◌⊎◌, inl, inr, length, replicate, get_or, sym, ap, subst, ◌∙◌, arith}
use Rattle.std.specs.Prelude.{◌↔◌, Contains}
use Rattle.std.proofs.lemmas.List.{get_or-set_same, get_or-set_other, get_or_append_left, get_or_past, get_or_push, get_or-replicate, length-replicate, length_push}
use Rattle.std.proofs.lemmas.List.Elements.{Contains-append_left, Contains-push, Contains-push_cases}
use Rattle.dom_base.proofs.Decided.{dec_nat, lt_or_ge}
use Rattle.switch_model.specs.ComponentLists.{AreRisingTo, RisesTo, list_at, with_number}

module _ (lists : List (List ℕ)) (place number : ℕ) (lt : place < length lists) where
  pub at_same : list_at (with_number lists place number) place ≡ list_at lists place ++ number ∷ []
  at_same = get_or-set_same lists place (list_at lists place ++ number ∷ []) [] lt

  pub at_other : (x : ℕ) → x ≢ place → list_at (with_number lists place number) x ≡ list_at lists x
  at_other x ne = get_or-set_other lists place x (list_at lists place ++ number ∷ []) [] ne

  added-to : (x k : ℕ) → Contains (list_at (with_number lists place number) x) k → Contains (list_at lists x) k ⊎ ((k ≡ number) × (x ≡ place))
  added-to x k c = elim (dec_nat x place) [
    | inl e ↦ elim (Contains-push_cases (list_at lists place) number k (subst (λ l. Contains l k) (ap (list_at (with_number lists place number)) e ∙ at_same) c)) [
      | inl h ↦ inl (subst (λ y. Contains (list_at lists y) k) (sym e) h)
      | inr h ↦ inr (sym h, e)
    ]
    | inr ne ↦ inl (subst (λ l. Contains l k) (at_other x ne) c)
  ]

  added-keeps : (x k : ℕ) → Contains (list_at lists x) k → Contains (list_at (with_number lists place number) x) k
  added-keeps x k c = elim (dec_nat x place) [
    | inl e ↦ subst (λ l. Contains l k) (sym (ap (list_at (with_number lists place number)) e ∙ at_same))
        (Contains-append_left (list_at lists place) (number ∷ []) k (subst (λ y. Contains (list_at lists y) k) e c))
    | inr ne ↦ subst (λ l. Contains l k) (sym (at_other x ne)) c
  ]

  added-there : Contains (list_at (with_number lists place number) place) number
  added-there = subst (λ l. Contains l number) (sym at_same) (Contains-push (list_at lists place) number)

  -- a list has what it had, and one of them the new number
  pub added : (x k : ℕ) → Contains (list_at (with_number lists place number) x) k ↔ (Contains (list_at lists x) k ⊎ ((k ≡ number) × (x ≡ place)))
  added x k = (added-to x k, from)
    where
      from : Contains (list_at lists x) k ⊎ ((k ≡ number) × (x ≡ place)) → Contains (list_at (with_number lists place number) x) k
      from (inl c) = added-keeps x k c
      from (inr z) = subst (λ y. Contains (list_at (with_number lists place number) y) k) (sym z.1) (subst (Contains (list_at (with_number lists place number) place)) (sym z.0) added-there)

-- a bound that is not the last number goes to the end
pub rises-push : (bound : ℕ) (xs : List ℕ) → RisesTo bound xs → ((k : ℕ) → k + 1 ≡ length xs → get_or xs k 0 ≢ bound) → RisesTo bound (xs ++ bound ∷ [])
rises-push bound xs r last = record { rising = rising; before = before; within = within }
  where
    long : length (xs ++ bound ∷ []) ≡ length xs + 1
    long = length_push xs bound

    old : (k : ℕ) → k < length xs → get_or (xs ++ bound ∷ []) k 0 ≡ get_or xs k 0
    old k lt = get_or_append_left xs (bound ∷ []) 0 k lt

    below : (k : ℕ) → k < length xs → get_or xs k 0 < bound
    below k lt = elim (dec_nat (k + 1) (length xs)) [
      | inl e ↦ omega (arith, r.within k lt, last k e)
      | inr ne ↦ r.before k (omega (arith, lt, ne))
    ]

    new : (k : ℕ) → k ≡ length xs → get_or (xs ++ bound ∷ []) k 0 ≡ bound
    new k e = get_or_push xs bound 0 k (sym e)

    rising : (k : ℕ) → k + 1 < length (xs ++ bound ∷ []) → get_or (xs ++ bound ∷ []) k 0 < get_or (xs ++ bound ∷ []) (k + 1) 0
    rising k lt = elim (dec_nat (k + 1) (length xs)) [
      | inl e ↦ omega (arith, old k (omega (arith, e)), new (k + 1) e, below k (omega (arith, e)))
      | inr ne ↦
          let h : k + 1 < length xs = omega (arith, lt, long, ne) in
          omega (arith, old k (omega (arith, h)), old (k + 1) h, r.rising k h)
    ]

    before : (k : ℕ) → k + 1 < length (xs ++ bound ∷ []) → get_or (xs ++ bound ∷ []) k 0 < bound
    before k lt = let h : k < length xs = omega (arith, lt, long) in omega (arith, old k h, below k h)

    within : (k : ℕ) → k < length (xs ++ bound ∷ []) → get_or (xs ++ bound ∷ []) k 0 ≤ bound
    within k lt = elim (dec_nat k (length xs)) [
      | inl e ↦ omega (arith, new k e)
      | inr ne ↦ let h : k < length xs = omega (arith, lt, long, ne) in omega (arith, old k h, r.within k h)
    ]

pub rising-added : (bound : ℕ) (lists : List (List ℕ)) (place : ℕ) → place < length lists → AreRisingTo bound lists
    → ((k : ℕ) → k + 1 ≡ length (list_at lists place) → get_or (list_at lists place) k 0 ≢ bound) → AreRisingTo bound (with_number lists place bound)
rising-added bound lists place lt r last x = elim (dec_nat x place) [
  | inl e ↦ subst (RisesTo bound) (sym (ap (list_at (with_number lists place bound)) e ∙ at_same lists place bound lt)) (rises-push bound (list_at lists place) (r place) last)
  | inr ne ↦ subst (RisesTo bound) (sym (at_other lists place bound lt x ne)) (r x)
]

pub rises-later : (bound later : ℕ) (xs : List ℕ) → bound < later → RisesTo bound xs → RisesTo later xs
rises-later bound later xs more r = record { rising = r.rising; before = λ k lt. omega (arith, r.before k lt, more); within = λ k lt. omega (arith, r.within k lt, more) }

pub rising-later : (bound : ℕ) (lists : List (List ℕ)) → AreRisingTo bound lists → AreRisingTo (bound + 1) lists
rising-later bound lists r x = rises-later bound (bound + 1) (list_at lists x) (omega arith) (r x)

pub at_none : (count x : ℕ) → list_at (replicate count []) x ≡ []
at_none count x = elim (lt_or_ge x count) [
  | inl lt ↦ get_or-replicate count x [] [] lt
  | inr ge ↦ get_or_past (replicate count []) x [] (omega (arith, length-replicate {A = List ℕ} count [], ge))
]

pub rising-none : (bound count : ℕ) → AreRisingTo bound (replicate count [])
rising-none bound count x =
    subst (RisesTo bound) (sym (at_none count x))
    (record { rising = λ k lt. absurd (omega (arith, lt)); before = λ k lt. absurd (omega (arith, lt)); within = λ k lt. absurd (omega (arith, lt)) })

pub contains_none : (count x k : ℕ) → Contains (list_at (replicate count []) x) k → ⊥
contains_none count x k c = let d : Contains {X = ℕ} [] k = subst (λ l. Contains l k) (at_none count x) c in omega (arith, d.1)

-- one number more below a bound
pub below-more : (P : ℕ → Type 0) (count : ℕ) → ((j : ℕ) × (j < count + 1) × P j) → ((j : ℕ) × (j < count) × P j) ⊎ P count
below-more P count (j, lt, p) = elim (dec_nat j count) [
  | inl e ↦ inr (subst P e p)
  | inr ne ↦ inl (j, omega (arith, lt, ne), p)
]

pub more-below : (P : ℕ → Type 0) (count : ℕ) → ((j : ℕ) × (j < count) × P j) ⊎ P count → (j : ℕ) × (j < count + 1) × P j
more-below P count (inl (j, lt, p)) = (j, omega (arith, lt), p)
more-below P count (inr p) = (count, omega arith, p)

-- what joins in two steps
pub joins-more : {A B F K X S T : Type 0} → A ↔ (B ⊎ (K × X)) → B ↔ (F ⊎ (K × S)) → (S ⊎ X → T) → (T → S ⊎ X) → A ↔ (F ⊎ (K × T))
joins-more {A} {B} {F} {K} {X} {S} {T} a b up down = (to, from)
  where
    to : A → F ⊎ (K × T)
    to h = elim (a.0 h) [
      | inl y ↦ elim (b.0 y) [ inl f ↦ inl f | inr z ↦ inr (z.0, up (inl z.1)) ]
      | inr z ↦ inr (z.0, up (inr z.1))
    ]

    from : F ⊎ (K × T) → A
    from (inl f) = a.1 (inl (b.1 (inl f)))
    from (inr z) = elim (down z.1) [ inl s ↦ a.1 (inl (b.1 (inr (z.0, s)))) | inr x ↦ a.1 (inr (z.0, x)) ]
