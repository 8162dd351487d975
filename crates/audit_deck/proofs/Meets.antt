-- Lists of numbers that are met, of nets or of devices: what each turn of a walk adds.
use Rattle.std.specs.Prelude.{Some, slice_get, ◌⊎◌}
use Rattle.std.proofs.Common.{List, [], ap, arith, inl, inr, length, subst, sym, ℕ, ◌+◌, ◌<◌, ◌∙◌, ◌∷◌, ◌≡◌, ◌≤◌}
use Rattle.std.proofs.lemmas.Option.{slice_get_within}
use Rattle.dom_base.proofs.Decided.{lt_or_ge}
use Rattle.dom_base.proofs.Lists.{slice_get-append, slice_get-push, slice_get-push_cases}
use Rattle.link_reduce.specs.Parts.{IsOnce}
use Rattle.audit_deck.specs.Indexes.{AreThose}
use Rattle.audit_deck.specs.Numberings.{AddsOne, IsMet}
use Rattle.audit_deck.specs.Walks.{MeetsThose}

pub meets_added : (before after : List ℕ) (n : ℕ) → AddsOne before n after → MeetsThose (λ m. m ≡ n) before after
meets_added before after n (inl (met, same)) = record {
  kept = λ i m at. subst (λ l. slice_get l i ≡ Some m) (sym same) at;
  sound = λ m there. inl (subst (λ l. IsMet l m) same there);
  full = λ m e. subst (λ l. IsMet l m) (sym same) (subst (IsMet before) (sym e) met);
}
meets_added before after n (inr (new, same)) = subst (MeetsThose (λ m. m ≡ n) before) (sym same) (record {
  kept = λ i m at. slice_get-append before (n ∷ []) i m at;
  sound = λ m there. elim (slice_get-push_cases before n there.0 m there.1) [ inl y ↦ inl (there.0, y) | inr y ↦ inr (sym y.1) ];
  full = λ m e. (length before, slice_get-push before n ∙ ap Some (sym e));
})

pub meets_same : (P Q : ℕ → Type 0) (before after : List ℕ) → ((m : ℕ) → P m → Q m) → ((m : ℕ) → Q m → P m) → MeetsThose P before after
    → MeetsThose Q before after
meets_same P Q before after to from h = record {
  kept = h.kept;
  sound = λ m there. elim (h.sound m there) [ inl y ↦ inl y | inr y ↦ inr (to m y) ];
  full = λ m q. h.full m (from m q);
}

pub meets_nothing : (P : ℕ → Type 0) (before : List ℕ) → ((m : ℕ) → P m → ⊥) → MeetsThose P before before
meets_nothing P before none = record { kept = λ i m at. at; sound = λ m there. inl there; full = λ m p. absurd (none m p) }

pub met_kept : (P : ℕ → Type 0) (before after : List ℕ) → MeetsThose P before after → (m : ℕ) → IsMet before m → IsMet after m
met_kept P before after h m there = (there.0, h.kept there.0 m there.1)

pub meets_then : (P Q : ℕ → Type 0) (a b c : List ℕ) → MeetsThose P a b → MeetsThose Q b c → MeetsThose (λ m. P m ⊎ Q m) a c
meets_then P Q a b c h k = record {
  kept = λ i m at. k.kept i m (h.kept i m at);
  sound = λ m there. elim (k.sound m there) [
    | inl y ↦ elim (h.sound m y) [ inl z ↦ inl z | inr z ↦ inr (inl z) ]
    | inr y ↦ inr (inr y)
  ];
  full = λ m e. elim e [ inl y ↦ met_kept Q b c k m (h.full m y) | inr y ↦ k.full m y ];
}

-- what those before a place of a list add
abbrev pub Upto : (ℕ → ℕ → Type 0) → List ℕ → ℕ → ℕ → Type 0
Upto Q numbers i m = (j : ℕ) × (p : ℕ) × (j < i) × (slice_get numbers j ≡ Some p) × Q p m

module _ (Q : ℕ → ℕ → Type 0) (numbers : List ℕ) where
  pub upto_none : (before : List ℕ) → MeetsThose (Upto Q numbers 0) before before
  upto_none before = meets_nothing (Upto Q numbers 0) before (λ m (j, p, lt, at, has). omega (arith, lt))

  pub upto_more : (i p : ℕ) (a b c : List ℕ) → slice_get numbers i ≡ Some p → MeetsThose (Upto Q numbers i) a b → MeetsThose (Q p) b c
      → MeetsThose (Upto Q numbers (i + 1)) a c
  upto_more i p a b c at h k =
      meets_same (λ m. Upto Q numbers i m ⊎ Q p m) (Upto Q numbers (i + 1)) a c
      (λ m e. elim e [ inl (j, q, lt, y, has) ↦ (j, q, omega (arith, lt), y, has) | inr y ↦ (i, p, omega arith, at, y) ])
      back
      (meets_then (Upto Q numbers i) (Q p) a b c h k)
    where
      back : (m : ℕ) → Upto Q numbers (i + 1) m → Upto Q numbers i m ⊎ Q p m
      back m (j, q, lt, y, has) = elim (lt_or_ge j i) [
        | inl low ↦ inl (j, q, low, y, has)
        | inr high ↦
            let e : j ≡ i = omega (arith, high, lt) in
            let z : Some q ≡ Some p = sym y ∙ ap (slice_get numbers) e ∙ at in
            let s : q ≡ p = cc in inr (subst (λ x. Q x m) s has)
      ]

  pub upto_all : (i : ℕ) (P : ℕ → Type 0) (a b : List ℕ) → length numbers ≤ i → MeetsThose (Upto Q numbers i) a b
      → ((m j p : ℕ) → slice_get numbers j ≡ Some p → Q p m → P m)
      → ((m : ℕ) → P m → (j : ℕ) × (p : ℕ) × (slice_get numbers j ≡ Some p) × Q p m)
      → MeetsThose P a b
  upto_all i P a b done h to from =
      meets_same (Upto Q numbers i) P a b
      (λ m (j, p, lt, at, has). to m j p at has)
      (λ m has. let y = from m has in (y.0, y.1, (let z = slice_get_within numbers y.0 y.1 y.2 in omega (arith, z, done)), y.2, y.3))
      h

-- what was met from nothing on
pub are_met : (P : ℕ → Type 0) (after : List ℕ) → MeetsThose P [] after → IsOnce after → AreThose P after
are_met P after h once = record {
  sound = λ j p at. elim (h.sound p (j, at)) [ inl y ↦ let z : slice_get [] y.0 ≡ Some p = y.1 in absurd cc | inr y ↦ y ];
  full = λ p has. h.full p has;
  once = once;
}
