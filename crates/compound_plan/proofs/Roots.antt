-- What stands among the items of a list, one for each root.
use Rattle.std.proofs.Common.{◌≡◌, inl, inr, refl, sym, subst, ℕ, zero, suc, ◌+◌, ◌≤◌, ◌<◌, Bool, true, false, not, cond, List, [], ◌∷◌, filter, All, arith}
use Rattle.std.specs.List.{AllZip, range_with_len}
use Rattle.std.proofs.lemmas.Bool.{cases_eq}
use Rattle.gate_decompose.specs.Items.{Among}

pub all_among : {X : Type 0} (P : X → Type 0) (x : X) (xs : List X) → All P xs → Among x xs → P x
all_among P x [] h at = absurd at
all_among P x (y ∷ xs) h (inl e) = subst P e (h 0 y (omega arith))
all_among P x (y ∷ xs) h (inr at) = all_among P x xs (λ k d lt. h (suc k) d (omega arith)) at

-- among what the roots have there is one of each root
pub root_among : {X : Type 0} (R : ℕ → X → Type 0) (kept : ℕ → Bool) (a m p : ℕ) (items : List X) → AllZip R (filter (λ place. not (kept place)) (range_with_len a m)) items
    → a ≤ p → p < a + m → kept p ≡ false → (t : X) × Among t items × R p t
root_among R kept a zero p items h low high e = absurd (omega arith)
root_among {X} R kept a (suc m) p items h low high e = by (kept a) refl items h (λ ts g low' high'. root_among R kept (a + 1) m p ts g low' high' e)
  where
    by : (b : Bool) → kept a ≡ b → (ts : List X)
        → AllZip R (cond (not b) (a ∷ filter (λ place. not (kept place)) (range_with_len (a + 1) m)) (filter (λ place. not (kept place)) (range_with_len (a + 1) m))) ts
        → ((us : List X) → AllZip R (filter (λ place. not (kept place)) (range_with_len (a + 1) m)) us → a + 1 ≤ p → p < a + 1 + m → (t : X) × Among t us × R p t)
        → (t : X) × Among t ts × R p t
    by true is ts g more = more ts g (omega (arith, apart)) (omega arith)
      where
        apart : p ≡ a → ⊥
        apart same = absurd (let f : kept a ≡ false = subst (λ q. kept q ≡ false) same e in cc)
    by false is [] g more = absurd g
    by false is (t ∷ ts) g more =
        elim (cases_eq p a) [
          | inl same ↦ (t, inl refl, subst (λ q. R q t) (sym same) g.0)
          | inr other ↦ let r = more ts g.1 (omega arith) (omega arith) in (r.0, inr r.1, r.2)
        ]
