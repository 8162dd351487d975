-- Marks of nets: what is marked after more nets are, and what marks that were made net by net say.
use Rattle.std.specs.Prelude.{Some, slice_get, ◌⊎◌}
use Rattle.std.proofs.Common.{Bool, List, [], ap, arith, false, get_or, inl, inr, length, length-set, refl, replicate, set, subst, suc, sym, true, zero, ℕ, ◌++◌, ◌+◌, ◌<◌, ◌∙◌, ◌∷◌, ◌≡◌, ◌≤◌}
use Rattle.std.proofs.lemmas.List.{get_or-set_same, length-append, length-replicate}
use Rattle.std.proofs.lemmas.Option.{slice_get_read, slice_get_within}
use Rattle.dom_base.proofs.Decided.{dec_nat, lt_or_ge}
use Rattle.dom_base.proofs.Lists.{none_set, slice_get-push_cases, slice_get-set_other}
use Rattle.audit_deck.specs.Marks.{AddsMarks, AreMarks}

-- the mark at a net is one
pub one_mark : (marks : List Bool) (n : ℕ) (a b : Bool) → slice_get marks n ≡ Some a → slice_get marks n ≡ Some b → a ≡ b
one_mark marks n a b e f = let z : Some a ≡ Some b = sym e ∙ f in cc

pub adds_none : (P : ℕ → Type 0) (marks : List Bool) → ((n : ℕ) → P n → ⊥) → AddsMarks P marks marks
adds_none P marks none = record { room = refl; kept = λ n e. e; sound = λ n e. inl e; full = λ n p. absurd (none n p) }

pub adds_same : (P Q : ℕ → Type 0) (a b : List Bool) → ((n : ℕ) → P n → Q n) → ((n : ℕ) → Q n → P n) → AddsMarks P a b → AddsMarks Q a b
adds_same P Q a b to from h = record {
  room = h.room;
  kept = h.kept;
  sound = λ n e. elim (h.sound n e) [ inl y ↦ inl y | inr y ↦ inr (to n y) ];
  full = λ n q. h.full n (from n q);
}

pub adds_then : (P Q : ℕ → Type 0) (a b c : List Bool) → AddsMarks P a b → AddsMarks Q b c → AddsMarks (λ n. P n ⊎ Q n) a c
adds_then P Q a b c h k = record {
  room = k.room ∙ h.room;
  kept = λ n e. k.kept n (h.kept n e);
  sound = λ n e. elim (k.sound n e) [
    | inl y ↦ elim (h.sound n y) [ inl z ↦ inl z | inr z ↦ inr (inl z) ]
    | inr y ↦ inr (inr y)
  ];
  full = λ n e. elim e [ inl y ↦ k.kept n (h.full n y) | inr y ↦ k.full n y ];
}

pub adds_one : (marks : List Bool) (net : ℕ) → net < length marks → AddsMarks (λ n. n ≡ net) marks (set marks net true)
adds_one marks net lt = record {
  room = length-set marks net true;
  kept = λ n e. elim (dec_nat n net) [
    | inl z ↦ ap (slice_get (set marks net true)) z ∙ here
    | inr ne ↦ slice_get-set_other marks net n true ne ∙ e
  ];
  sound = λ n e. elim (dec_nat n net) [ inl z ↦ inr z | inr ne ↦ inl (sym (slice_get-set_other marks net n true ne) ∙ e) ];
  full = λ n z. ap (slice_get (set marks net true)) z ∙ here;
}
  where
    here : slice_get (set marks net true) net ≡ Some true
    here = slice_get_read (set marks net true) (length marks) net true (sym (length-set marks net true)) lt (sym (get_or-set_same marks net true true lt))

-- what those below a number have
abbrev pub Below : (ℕ → ℕ → Type 0) → ℕ → ℕ → Type 0
Below Q k n = (j : ℕ) × (j < k) × Q j n

module _ (Q : ℕ → ℕ → Type 0) where
  pub adds_begun : (marks : List Bool) → AddsMarks (Below Q 0) marks marks
  adds_begun marks = adds_none (Below Q 0) marks (λ n (j, lt, q). omega (arith, lt))

  pub adds_more : (k : ℕ) (a b c : List Bool) → AddsMarks (Below Q k) a b → AddsMarks (Q k) b c → AddsMarks (Below Q (k + 1)) a c
  adds_more k a b c h g = adds_same (λ n. Below Q k n ⊎ Q k n) (Below Q (k + 1)) a c
      (λ n e. elim e [ inl (j, lt, q) ↦ (j, omega (arith, lt), q) | inr q ↦ (k, omega arith, q) ])
      back
      (adds_then (Below Q k) (Q k) a b c h g)
    where
      back : (n : ℕ) → Below Q (k + 1) n → Below Q k n ⊎ Q k n
      back n (j, lt, q) = elim (lt_or_ge j k) [
        | inl low ↦ inl (j, low, q)
        | inr high ↦ let e : j ≡ k = omega (arith, high, lt) in inr (subst (λ x. Q x n) e q)
      ]

  pub adds_all : (P : ℕ → Type 0) (k : ℕ) (a b : List Bool) → ((n j : ℕ) → Q j n → P n) → ((n : ℕ) → P n → (j : ℕ) × (j < k) × Q j n)
      → AddsMarks (Below Q k) a b → AddsMarks P a b
  adds_all P k a b to from h = adds_same (Below Q k) P a b (λ n (j, lt, q). to n j q) from h

-- where none was marked before, just those are that were added
pub marks_of : (P : ℕ → Type 0) (count : ℕ) (before after : List Bool) → before ≡ replicate count false → AddsMarks P before after → AreMarks P count after
marks_of P count before after none h = record {
  count = h.room ∙ ap length none ∙ length-replicate count false;
  yes = λ n e. elim (h.sound n e) [ inl y ↦ absurd (none_set count n (ap (λ l. slice_get l n) (sym none) ∙ y)) | inr y ↦ y ];
  no = λ n e p. let z : Some false ≡ Some true = sym e ∙ h.full n p in cc;
}

-- marks that are made net by net
pub marks_begun : (P : ℕ → Type 0) → AreMarks P 0 []
marks_begun P = record { count = refl; yes = λ n e. absurd cc; no = λ n e p. cc }

pub marks_more : (P : ℕ → Type 0) (k : ℕ) (marks : List Bool) (mark : Bool) → AreMarks P k marks → (mark ≡ true → P k) → (mark ≡ false → P k → ⊥)
    → AreMarks P (k + 1) (marks ++ mark ∷ [])
marks_more P k marks mark h has hasnt = record {
  count = let z = length-append marks (mark ∷ []) in omega (arith, z, h.count);
  yes = λ n e. elim (slice_get-push_cases marks mark n true e) [
    | inl y ↦ h.yes n y
    | inr y ↦ subst P (sym (y.0 ∙ h.count)) (has y.1)
  ];
  no = λ n e p. elim (slice_get-push_cases marks mark n false e) [
    | inl y ↦ h.no n y p
    | inr y ↦ hasnt y.1 (subst P (y.0 ∙ h.count) p)
  ];
}

-- marks of one property are marks of another that has the same nets
pub marks_same : (P Q : ℕ → Type 0) (count : ℕ) (marks : List Bool) → ((n : ℕ) → P n → Q n) → ((n : ℕ) → Q n → P n) → AreMarks P count marks
    → AreMarks Q count marks
marks_same P Q count marks to from h = record { count = h.count; yes = λ n e. to n (h.yes n e); no = λ n e q. h.no n e (from n q) }

-- what a mark says
module _ (P : ℕ → Type 0) (count : ℕ) (marks : List Bool) (are : AreMarks P count marks) (n : ℕ) (mark : Bool) (at : slice_get marks n ≡ Some mark) where
  pub mark_yes : mark ≡ true → P n
  mark_yes e = are.yes n (at ∙ ap Some e)

  pub mark_no : mark ≡ false → P n → ⊥
  mark_no e p = are.no n (at ∙ ap Some e) p
