-- Different numbers of a range are at most as many as the range has.
use Rattle.std.specs.List.{AllByRecursion}
use Rattle.std.specs.Prelude.{◌≢◌}
use Rattle.std.proofs.Common.{List, [], arith, cond, eqb, inl, inr, length, refl, suc, zero, ℕ, ◌+◌, ◌∷◌, ◌≡◌, ◌≤◌}
use Rattle.std.proofs.lemmas.Bool.Decides.{eqb_tells}
use Rattle.dom_base.proofs.Lists.{AllByRecursion-both, AllByRecursion-weaker}
use Rattle.circuit_law.specs.Counts.{Distinct, IsBetween}

erase : ℕ → List ℕ → List ℕ
erase n [] = []
erase n (m ∷ ms) = cond (eqb m n) (erase n ms) (m ∷ erase n ms)

erase_keeps : (P : ℕ → Type 0) (n : ℕ) (ms : List ℕ) → AllByRecursion P ms → AllByRecursion P (erase n ms)
unfolding erase
erase_keeps P n [] h = tt
erase_keeps P n (m ∷ ms) h = elim (eqb_tells m n) [ inl e ↦ rw e.0 (erase_keeps P n ms h.1) | inr e ↦ rw e.0 (h.0, erase_keeps P n ms h.1) ]

erase_distinct : (n : ℕ) (ms : List ℕ) → Distinct ms → Distinct (erase n ms)
unfolding erase
erase_distinct n [] h = tt
erase_distinct n (m ∷ ms) h = elim (eqb_tells m n) [ inl e ↦ rw e.0 (erase_distinct n ms h.1) | inr e ↦ rw e.0 (erase_keeps (λ x. x ≢ m) n ms h.0, erase_distinct n ms h.1) ]

erase_none : (n : ℕ) (ms : List ℕ) → AllByRecursion (λ x. x ≢ n) (erase n ms)
unfolding erase
erase_none n [] = tt
erase_none n (m ∷ ms) = elim (eqb_tells m n) [ inl e ↦ rw e.0 (erase_none n ms) | inr e ↦ rw e.0 (e.1, erase_none n ms) ]

erase_absent : (n : ℕ) (ms : List ℕ) → AllByRecursion (λ x. x ≢ n) ms → erase n ms ≡ ms
unfolding erase
erase_absent n [] h = refl
erase_absent n (m ∷ ms) h = elim (eqb_tells m n) [ inl e ↦ absurd (h.0 e.1) | inr e ↦ rw (e.0, erase_absent n ms h.1) refl ]

length-erase : (n : ℕ) (ms : List ℕ) → Distinct ms → length ms ≤ length (erase n ms) + 1
unfolding erase
length-erase n [] h = omega arith
length-erase n (m ∷ ms) h =
    elim (eqb_tells m n) [
      | inl e ↦ let same = erase_absent n ms (rw e.1 at h.0) in rw (e.0, same) (omega arith)
      | inr e ↦ let ih = length-erase n ms h.1 in rw e.0 (omega arith)
    ]

pub length-distinct : (low n : ℕ) (ms : List ℕ) → Distinct ms → AllByRecursion (IsBetween low n) ms → length ms ≤ n
length-distinct low zero [] d h = omega arith
length-distinct low zero (m ∷ ms) d h = let a = h.0.0 in let b = h.0.1 in absurd (omega arith)
length-distinct low (suc n) ms d h =
    let ih = length-distinct low n (erase (low + n) ms) (erase_distinct (low + n) ms d)
    (AllByRecursion-weaker _ (IsBetween low n) (λ x k. (k.0.0, (let a = k.0.1 in let b = k.1 in omega arith))) (erase (low + n) ms) (AllByRecursion-both (IsBetween low (suc n)) (λ x. x ≢ low + n) (erase (low + n) ms) (erase_keeps (IsBetween low (suc n)) (low + n) ms h) (erase_none (low + n) ms))) in
    let e = length-erase (low + n) ms d in
    omega arith
