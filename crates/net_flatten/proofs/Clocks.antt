-- What clocks the latches among some parts, part by part.
use Rattle.std.proofs.Common.{◌≡◌, ℕ, ◌+◌, ◌⊎◌, inl, inr, Bool, true, false, List, [], ◌∷◌, take, Option, Some, None, refl, ap, sym, ◌∙◌, subst, arith}
use Rattle.std.specs.Prelude.{Contains, nat_eq, not, slice_get}
use Rattle.std.proofs.lemmas.Bool.{eqb-true, true≢false}
use Rattle.std.proofs.lemmas.List.Elements.{Contains-append_cases, Contains-append_left, Contains-append_right}
use Rattle.dom_base.proofs.Bools.{or_none}
use Rattle.dom_base.proofs.Lists.{Contains-first}
use Rattle.blif_ast.specs.BlifFileData.{BlifFileData}
use Rattle.blif_ast.specs.declared.latch.Edge2.{Edge2}
use Rattle.blif_ast.specs.declared.latch.Edge2.TheVariants.{Rising, Falling}
use Rattle.net_flatten.specs.declared.clocking.Clock.{Clock}
use Rattle.net_flatten.specs.ClockSearches.{IsClockOf, IsClockedAt, differs_from_clock, first_of, joined_clock, other_edge, other_signal, same_edge}
use Rattle.part_numbers.specs.NumberedFiles.{NumberedPartData}
use Rattle.part_numbers.specs.PartCards.{edge_of}
use Rattle.model_calls.proofs.Fitting.{contains_cons}
use Rattle.network.proofs.IndexedLists.{take_next}

pub same_edges : (a b : Edge2) → not (same_edge a b) ≡ false → a ≡ b
same_edges Rising Rising e = refl
same_edges Falling Falling e = refl
same_edges Rising Falling e = absurd (true≢false e)
same_edges Falling Rising e = absurd (true≢false e)

pub same_numbers : (a b : ℕ) → not (nat_eq a b) ≡ false → a ≡ b
same_numbers a b e = by (nat_eq a b) refl e
  where
    by : (t : Bool) → nat_eq a b ≡ t → not t ≡ false → a ≡ b
    by true is e = eqb-true a b is
    by false is e = absurd (true≢false e)

agreed_edge : (known : Option Edge2) (a b : Edge2) → known ≡ Some a → other_edge known b ≡ false → a ≡ b
agreed_edge None a b is e = absurd cc
agreed_edge (Some c) a b is e = let i : c ≡ a = cc in sym i ∙ same_edges c b e

-- the signal of a clock and that of a latch that doesn't differ
agreed_signal : (known : Option ℕ) (s : ℕ) → other_signal known (Some s) ≡ false → first_of known (Some s) ≡ Some s
agreed_signal None s e = refl
agreed_signal (Some t) s e = ap Some (same_numbers t s e)

kept_signal : (known signal : Option ℕ) (s : ℕ) → known ≡ Some s → first_of known signal ≡ Some s
kept_signal None signal s e = absurd cc
kept_signal (Some t) signal s e = e

either_signal : (known signal : Option ℕ) (s : ℕ) → first_of known signal ≡ Some s → (known ≡ Some s) ⊎ (signal ≡ Some s)
either_signal None signal s e = inr e
either_signal (Some t) signal s e = inl e

module _ (f : BlifFileData) where
  pub clock_at_start : (parts : List NumberedPartData) → IsClockOf f (take 0 parts) (record { edge = None; signal = None })
  clock_at_start parts = record {
    edges = λ p edge at. absurd (none p at.there);
    signals = λ p edge s at e. absurd (none p at.there);
    edge_from = λ edge e. absurd cc;
    signal_from = λ s e. absurd cc;
  }
    where
      none : (p : NumberedPartData) → Contains (take 0 parts) p → ⊥
      none p (k, l, e) = omega (arith, l)

  module _ (parts : List NumberedPartData) (index : ℕ) (p : NumberedPartData) (at : slice_get parts index ≡ Some p) (clock : Clock) where
    either : (q : NumberedPartData) → Contains (take (index + 1) parts) q → Contains (take index parts) q ⊎ (p ≡ q)
    either q c = elim (Contains-append_cases (take index parts) (p ∷ []) q (subst (λ l. Contains l q) (take_next parts index p at) c)) [
      | inl old ↦ inl old
      | inr new ↦ elim (contains_cons p [] q new) [ inl is ↦ inr is | inr none ↦ absurd (omega (arith, none.1)) ]
    ]

    later : (q : NumberedPartData) (edge : Edge2) → IsClockedAt f (take index parts) q edge → IsClockedAt f (take (index + 1) parts) q edge
    later q edge c = record { there = subst (λ l. Contains l q) (sym (take_next parts index p at)) (Contains-append_left (take index parts) (p ∷ []) q c.there); edge_is = c.edge_is }

    here : (edge : Edge2) → edge_of f p ≡ Some edge → IsClockedAt f (take (index + 1) parts) p edge
    here edge is = record { there = subst (λ l. Contains l p) (sym (take_next parts index p at)) (Contains-append_right (take index parts) (p ∷ []) p (Contains-first p [])); edge_is = is }

    -- a part that is no latch with a type says nothing
    pub clock_at_other : edge_of f p ≡ None → IsClockOf f (take index parts) clock → IsClockOf f (take (index + 1) parts) clock
    clock_at_other none c = record {
      edges = λ q edge is. elim (either q is.there) [ inl old ↦ c.edges q edge (record { there = old; edge_is = is.edge_is }) | inr same ↦ absurd (never edge (ap (edge_of f) same ∙ is.edge_is)) ];
      signals = λ q edge s is e. elim (either q is.there) [ inl old ↦ c.signals q edge s (record { there = old; edge_is = is.edge_is }) e | inr same ↦ absurd (never edge (ap (edge_of f) same ∙ is.edge_is)) ];
      edge_from = λ edge e. let w = c.edge_from edge e in (w.0, later w.0 edge w.1);
      signal_from = λ s e. let w = c.signal_from s e in (w.0, w.1, later w.0 w.1 w.2, w.3);
    }
      where
        never : (edge : Edge2) → edge_of f p ≡ Some edge → ⊥
        never edge e = let d : None ≡ Some edge = sym none ∙ e in cc

    -- a latch that isn't clocked otherwise is joined
    pub clock_at_latch : (edge : Edge2) → edge_of f p ≡ Some edge → differs_from_clock clock edge p.control ≡ false → IsClockOf f (take index parts) clock → IsClockOf f (take (index + 1) parts) (joined_clock clock edge p.control)
    clock_at_latch edge is same c =
        let both = or_none (other_edge clock.edge edge) (other_signal clock.signal p.control) same in
        record {
          edges = λ q other at. elim (either q at.there) [
            | inl old ↦ ap Some (sym (agreed_edge clock.edge other edge (c.edges q other (record { there = old; edge_is = at.edge_is })) both.0))
            | inr one ↦ sym is ∙ ap (edge_of f) one ∙ at.edge_is
          ];
          signals = λ q other s at e. elim (either q at.there) [
            | inl old ↦ kept_signal clock.signal p.control s (c.signals q other s (record { there = old; edge_is = at.edge_is }) e)
            | inr one ↦ mine s (ap (λ (r : NumberedPartData). r.control) one ∙ e) both.1
          ];
          edge_from = λ other e. (p, here other (is ∙ e));
          signal_from = λ s e. elim (either_signal clock.signal p.control s e) [
            | inl old ↦ let w = c.signal_from s old in (w.0, w.1, later w.0 w.1 w.2, w.3)
            | inr new ↦ (p, edge, here edge is, new)
          ];
        }
      where
        mine : (s : ℕ) → p.control ≡ Some s → other_signal clock.signal p.control ≡ false → first_of clock.signal p.control ≡ Some s
        mine s e agreed = subst (λ o. first_of clock.signal o ≡ Some s) (sym e) (agreed_signal clock.signal s (subst (λ o. other_signal clock.signal o ≡ false) e agreed))
