-- Which numbers in a list have a property, as far as a scan has come.
use Rattle.std.specs.Prelude.{IfNone, IfSome, None, Option, Some, false, slice_get, true, ◌⊎◌}
use Rattle.std.specs.Option.{is_some}
use Rattle.std.proofs.Common.{List, ap, arith, inl, inr, length, subst, sym, ℕ, ◌+◌, ◌<◌, ◌∙◌, ◌≡◌, ◌≤◌}
use Rattle.std.proofs.lemmas.Option.{slice_get_within}
use Rattle.dom_base.proofs.Decided.{lt_or_ge}
use Rattle.link_reduce.specs.Parts.{IsOnce}
use Rattle.audit_deck.specs.Scans.{AllBefore, IsOnlyIn}

-- of the first numbers none has the property
abbrev pub NoneBefore : (ℕ → Type 0) → List ℕ → ℕ → Type 0
NoneBefore Q numbers i = AllBefore (λ p. Q p → ⊥) numbers i

-- none has it, or this one alone
abbrev pub IsOnlyBefore : (ℕ → Type 0) → List ℕ → ℕ → Option ℕ → Type 0
IsOnlyBefore Q numbers i None = NoneBefore Q numbers i
IsOnlyBefore Q numbers i (Some x) =
    ((k : ℕ) × (k < i) × (slice_get numbers k ≡ Some x)) × Q x × ((j p : ℕ) → j < i → slice_get numbers j ≡ Some p → Q p → p ≡ x)

pub none_of : {X : Type 0} (o : Option X) (P : Type 0) → is_some o ≡ false → IfNone o P → P
none_of None P e h = h
none_of (Some x) P e h = absurd cc

module _ (Q : ℕ → Type 0) (numbers : List ℕ) (i p : ℕ) (at : slice_get numbers i ≡ Some p) where
  here_or_before : (j q : ℕ) → j < i + 1 → slice_get numbers j ≡ Some q → (q ≡ p) ⊎ (j < i)
  here_or_before j q lt there = elim (lt_or_ge j i) [
    | inl y ↦ inr y
    | inr y ↦ let e : j ≡ i = omega (arith, y, lt) in let z : Some q ≡ Some p = sym there ∙ ap (slice_get numbers) e ∙ at in inl cc
  ]

  pub all_past : Q p → AllBefore Q numbers i → AllBefore Q numbers (i + 1)
  all_past has h = λ j q lt there. elim (here_or_before j q lt there) [ inl z ↦ subst Q (sym z) has | inr y ↦ h j q y there ]

  pub none_past : (Q p → ⊥) → NoneBefore Q numbers i → NoneBefore Q numbers (i + 1)
  none_past hasnt h = λ j q lt there has. elim (here_or_before j q lt there) [ inl z ↦ hasnt (subst Q z has) | inr y ↦ h j q y there has ]

  pub scan_past : (o : Option ℕ) → (Q p → ⊥) → IsOnlyBefore Q numbers i o → IsOnlyBefore Q numbers (i + 1) o
  scan_past None hasnt h = none_past hasnt h
  scan_past (Some x) hasnt h = (
    (h.0.0, omega (arith, h.0.1), h.0.2),
    h.1,
    (λ j q lt there has. elim (here_or_before j q lt there) [ inl z ↦ absurd (hasnt (subst Q z has)) | inr y ↦ h.2 j q y there has ]),
  )

  pub scan_first : (o : Option ℕ) → is_some o ≡ false → Q p → IsOnlyBefore Q numbers i o → IsOnlyBefore Q numbers (i + 1) (Some p)
  scan_first None none has h = (
    (i, omega arith, at),
    has,
    (λ j q lt there other. elim (here_or_before j q lt there) [ inl z ↦ z | inr y ↦ absurd (h j q y there other) ]),
  )
  scan_first (Some x) none has h = absurd cc

  -- a second one: none is the only one
  pub scan_second : (o : Option ℕ) → is_some o ≡ true → Q p → IsOnlyBefore Q numbers i o → IsOnce numbers → (y : ℕ)
      → IsOnlyIn Q numbers y → ⊥
  scan_second None some has h once y one = absurd cc
  scan_second (Some x) some has h once y one =
      let same : x ≡ p = one.only h.0.0 x h.0.2 h.1 ∙ sym (one.only i p at has) in
      let e = once h.0.0 i p (h.0.2 ∙ ap Some same) at in
      omega (arith, e, h.0.1)

module _ (Q : ℕ → Type 0) (numbers : List ℕ) (i : ℕ) (done : length numbers ≤ i) where
  low : (j p : ℕ) → slice_get numbers j ≡ Some p → j < i
  low j p at = let y = slice_get_within numbers j p at in omega (arith, y, done)

  pub scan_some : (o : Option ℕ) → IsOnlyBefore Q numbers i o → IfSome o (IsOnlyIn Q numbers)
  scan_some None h = tt
  scan_some (Some x) h = record { place = h.0.0; at = h.0.2; has = h.1; only = λ j p at has. h.2 j p (low j p at) at has }

  pub scan_none : (o : Option ℕ) → IsOnlyBefore Q numbers i o → IfNone o ((x : ℕ) → IsOnlyIn Q numbers x → ⊥)
  scan_none None h = λ x one. h one.place x (low one.place x one.at) one.at one.has
  scan_none (Some x) h = tt

  pub all_have : AllBefore Q numbers i → (j p : ℕ) → slice_get numbers j ≡ Some p → Q p
  all_have h j p at = h j p (low j p at) at
