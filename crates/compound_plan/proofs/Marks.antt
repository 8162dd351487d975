-- Marks of kept pairs, with their shapes, and what a choice changes of them.
use Rattle.std.proofs.Common.{◌≡◌, ◌⊎◌, inl, inr, refl, sym, ap, subst, ℕ, Bool, true, false, cond, ◌==◌, eq-eqb, ne_eqb}
use Rattle.std.proofs.lemmas.Bool.{cases_eq}
use Rattle.dual_rail.specs.declared.forest.Arm.{Arm}
use Rattle.dual_rail.specs.declared.forest.Arm.TheVariants.{Literal, Pair as pair_arm}
use Rattle.cover_plan.specs.Parts.{Choice, CutOff, Keep, Nothing, TreeShape}

-- what a choice for an arm changes: a kept pair is marked, and has the shape of the choice
unfoldable pub mark : Arm → Choice → (ℕ → Bool) → ℕ → Bool
mark (pair_arm a) (Keep s) K q = cond (q == a) true (K q)
mark _ _ K q = K q

unfoldable pub put : Arm → Choice → (ℕ → TreeShape) → ℕ → TreeShape
put (pair_arm a) (Keep s) S q = cond (q == a) s (S q)
put _ _ S q = S q

abbrev pub IsNew : Arm → Choice → ℕ → TreeShape → Type 0
IsNew arm x q s = (arm ≡ pair_arm q) × (x ≡ Keep s)

pub mark_cases : (arm : Arm) (x : Choice) (K : ℕ → Bool) (q : ℕ) → mark arm x K q ≡ true → (K q ≡ true) ⊎ ((s : TreeShape) × IsNew arm x q s)
unfolding mark
mark_cases (Literal rail) x K q e = inl e
mark_cases (pair_arm a) CutOff K q e = inl e
mark_cases (pair_arm a) Nothing K q e = inl e
mark_cases (pair_arm a) (Keep s) K q e =
    elim (cases_eq q a) [ inl same ↦ inr (s, (ap pair_arm (sym same), refl)) | inr other ↦ inl (subst (λ b. cond b true (K q) ≡ true) (ne_eqb q a other) e) ]

pub mark_adds : (arm : Arm) (x : Choice) (K : ℕ → Bool) (q : ℕ) → K q ≡ true → mark arm x K q ≡ true
unfolding mark
mark_adds (Literal rail) x K q e = e
mark_adds (pair_arm a) CutOff K q e = e
mark_adds (pair_arm a) Nothing K q e = e
mark_adds (pair_arm a) (Keep s) K q e = by (q == a)
  where
    by : (b : Bool) → cond b true (K q) ≡ true
    by true = refl
    by false = e

pub mark_here : (a : ℕ) (s : TreeShape) (K : ℕ → Bool) → mark (pair_arm a) (Keep s) K a ≡ true
unfolding mark
mark_here a s K = rw (eq-eqb a a refl) refl

pub put_here : (a : ℕ) (s : TreeShape) (S : ℕ → TreeShape) → put (pair_arm a) (Keep s) S a ≡ s
unfolding put
put_here a s S = rw (eq-eqb a a refl) refl

-- the same where the arm and the choice are known by equations
pub marked_at : (arm : Arm) (x : Choice) (q : ℕ) (s : TreeShape) (K : ℕ → Bool) → IsNew arm x q s → mark arm x K q ≡ true
marked_at arm x q s K (e, f) = subst (λ c. mark arm c K q ≡ true) (sym f) (subst (λ a. mark a (Keep s) K q ≡ true) (sym e) (mark_here q s K))

pub put_at : (arm : Arm) (x : Choice) (q : ℕ) (s : TreeShape) (S : ℕ → TreeShape) → IsNew arm x q s → put arm x S q ≡ s
put_at arm x q s S (e, f) = subst (λ c. put arm c S q ≡ s) (sym f) (subst (λ a. put a (Keep s) S q ≡ s) (sym e) (put_here q s S))

pub put_other : (arm : Arm) (x : Choice) (S : ℕ → TreeShape) (q : ℕ) → ((s : TreeShape) → IsNew arm x q s → ⊥) → put arm x S q ≡ S q
unfolding put
put_other (Literal rail) x S q h = refl
put_other (pair_arm a) CutOff S q h = refl
put_other (pair_arm a) Nothing S q h = refl
put_other (pair_arm a) (Keep s) S q h =
    elim (cases_eq q a) [ inl same ↦ absurd (h s (ap pair_arm (sym same), refl)) | inr other ↦ rw (ne_eqb q a other) refl ]
