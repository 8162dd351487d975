-- Which part alone is left among the first ones.
use Rattle.std.specs.Prelude.{Bool, None, Option, Some, false, slice_get, true, ◌⊎◌}
use Rattle.std.proofs.Common.{List, ap, arith, inl, inr, sym, ℕ, ◌+◌, ◌<◌, ◌∙◌, ◌≡◌}
use Rattle.dom_base.proofs.Decided.{lt_or_ge}
use Rattle.link_reduce.specs.Reductions.{IsOnlyLive}

-- of the first numbers none is left, or this one alone
abbrev pub IsOnlyBelow : List Bool → ℕ → Option ℕ → Type 0
IsOnlyBelow live n None = (j : ℕ) → j < n → slice_get live j ≡ Some true → ⊥
IsOnlyBelow live n (Some i) = (i < n) × (slice_get live i ≡ Some true) × ((j : ℕ) → j < n → slice_get live j ≡ Some true → j ≡ i)

last_or_before : (n j : ℕ) → j < n + 1 → (j ≡ n) ⊎ (j < n)
last_or_before n j lt = elim (lt_or_ge j n) [ inl y ↦ inr y | inr y ↦ inl (omega (arith, y, lt)) ]

module _ (live : List Bool) (n : ℕ) where
  pub skip_dead : (o : Option ℕ) → slice_get live n ≡ Some false → IsOnlyBelow live n o → IsOnlyBelow live (n + 1) o
  skip_dead None dead h = λ j lt e. elim (last_or_before n j lt) [ inl z ↦ clash j z e | inr y ↦ h j y e ]
    where
      clash : (j : ℕ) → j ≡ n → slice_get live j ≡ Some true → ⊥
      clash j z e = let w : Some true ≡ Some false = sym e ∙ ap (slice_get live) z ∙ dead in cc
  skip_dead (Some i) dead h = (omega (arith, h.0), h.1, (λ j lt e. elim (last_or_before n j lt) [ inl z ↦ absurd (clash j z e) | inr y ↦ h.2 j y e ]))
    where
      clash : (j : ℕ) → j ≡ n → slice_get live j ≡ Some true → ⊥
      clash j z e = let w : Some true ≡ Some false = sym e ∙ ap (slice_get live) z ∙ dead in cc

  pub first_live : slice_get live n ≡ Some true → IsOnlyBelow live n None → IsOnlyBelow live (n + 1) (Some n)
  first_live here h = (omega arith, here, (λ j lt e. elim (last_or_before n j lt) [ inl z ↦ z | inr y ↦ absurd (h j y e) ]))

  -- a second one is left
  pub two_live : (i : ℕ) → slice_get live n ≡ Some true → IsOnlyBelow live n (Some i) → (k : ℕ) → IsOnlyLive live k → ⊥
  two_live i here h k one = omega (arith, h.0, one.only i h.1, one.only n here)
