-- Trials of sinks after a turn.
use Rattle.std.proofs.Common.{◌≡◌, ◌⊎◌, inl, inr, refl, sym, ap, subst, ◌∙◌, ℕ, zero, suc, ◌+◌, ◌≤◌, ◌<◌, Bool, true, not, List, [], ◌∷◌, ◌++◌, length, length-append, length-set, set, get_or, Option, Some, None, slice_get, arith}
use Rattle.std.proofs.lemmas.Bool.{cases_eq}
use Rattle.std.proofs.lemmas.Option.{same_Some, slice_get-get_or}
use Rattle.dom_base.proofs.Lists.{slice_get-push_cases, slice_get-set_other}
use Rattle.gate_decompose.specs.GatesData.{GatesData}
use Rattle.gate_decompose.specs.GatesOrder.{AreOrderedGates}
use Rattle.phase_assign.specs.LookedPairs.{looked_pairs}
use Rattle.phase_assign.specs.Refusals.{IsSignChangeRefused}
use Rattle.phase_assign.specs.Search.{IsSearch}
use Rattle.phase_assign.specs.Signs.{Lowers, with_sign_changed}
use Rattle.phase_assign.specs.Trials.{AreTrials, HasNoTrials, IsTrial}
use Rattle.phase_assign.specs.Uses.{AreBelow, asked_by_sinks, times, used}
use Rattle.phase_assign.specs.Wiring.{AreWired, IsWiring}
use Rattle.dual_rail.specs.declared.signed.Signed.{Signed}
use Rattle.phase_assign.specs.ArmsData.{ArmsData as Arms}
use Rattle.dual_rail.specs.declared.signed.SignedNode.{SignedNode}
use Rattle.phase_assign.specs.declared.trials.Trial.{Trial}
use Rattle.phase_assign.proofs.Exchanges.{sinks_with, uses_without}
use Rattle.phase_assign.proofs.Refusals.{refused_still, refused_tried}
use Rattle.phase_assign.proofs.Searches.{tried_none}

get_set_same : {X : Type 0} (xs : List X) (k : ℕ) (x y : X) → slice_get (set xs k y) k ≡ Some x → y ≡ x
get_set_same [] k x y e = absurd (cc)
get_set_same (z ∷ xs) zero x y e = same_Some y x e
get_set_same (z ∷ xs) (suc k) x y e = get_set_same xs k x y e

-- no trials
pub no_trials_next : (trials new : List (Option Trial)) (i : ℕ) → HasNoTrials i trials → new ≡ trials ++ (None ∷ []) → HasNoTrials (i + 1) new
no_trials_next trials new i has e =
    (ap length e ∙ length-append trials (None ∷ []) ∙ ap (λ n. n + 1) has.0, λ k trial at. by k trial (slice_get-push_cases trials None k (Some trial) (ap (λ ts. slice_get ts k) (sym e) ∙ at)))
  where
    by : (k : ℕ) (trial : Trial) → (slice_get trials k ≡ Some (Some trial)) ⊎ ((k ≡ length trials) × (None ≡ Some trial)) → ⊥
    by k trial (inl at) = has.1 k trial at
    by k trial (inr (here, is)) = cc

-- a sink whose use with the other sign was refused
pub refused_none : (gates : GatesData) → AreOrderedGates gates → (arms : List Arms) (ends : List (Option SignedNode)) → IsWiring arms ends → AreWired gates arms ends → (signs : List Bool) (uses : List (Signed ℕ)) (size k : ℕ)
    → IsSearch arms ends signs uses size → k < length signs → (e : Option SignedNode) (b : Bool) → slice_get ends k ≡ Some e → b ≡ get_or signs k true → (looked : List SignedNode) → IsSignChangeRefused arms (used uses) e b looked → Lowers gates signs k → ⊥
refused_none gates order arms ends wiring wired signs uses size k is lt e b at own looked refused =
    tried_none gates order arms ends wiring wired signs uses size k is
    (refused_tried arms (used uses) e b looked (asked_by_sinks (set ends k None) signs) (asked_by_sinks ends (with_sign_changed signs k)) refused
    (uses_without arms (used uses) ends signs k e b true at lt own is.uses_are)
    (λ n s. sinks_with ends signs k e (not b) at lt n s ∙ ap (λ c. times n s (asked_by_sinks ends (set signs k (not c)))) own) size is.size_is)

-- a sink whose trial still holds
pub settled_none : (gates : GatesData) → AreOrderedGates gates → (arms : List Arms) (ends : List (Option SignedNode)) → IsWiring arms ends → AreWired gates arms ends → (signs : List Bool) (uses : List (Signed ℕ)) (size k : ℕ)
    → (changed : List ℕ) (trials : List (Option Trial)) → IsSearch arms ends signs uses size → AreTrials arms ends signs uses size changed trials → k < length ends → (trial : Trial) → slice_get trials k ≡ Some (Some trial)
    → ((n : ℕ) (s : Bool) → 0 < times n s (looked_pairs trial.looked) → trial.size ≤ get_or changed n 0) → Lowers gates signs k → ⊥
settled_none gates order arms ends wiring wired signs uses size k changed trials is are lt trial at current =
    let e : Option SignedNode = get_or ends k None in
    let b : Bool = get_or signs k true in
    let low : k < length signs = omega (arith, is.one_each) in
    let at_e = slice_get-get_or ends k None lt in
    let t = are.each k trial e b at at_e (slice_get-get_or signs k true low) in
    refused_none gates order arms ends wiring wired signs uses size k is low e b at_e refl (looked_pairs trial.looked)
    (refused_still arms t.count (used uses) (looked_pairs trial.looked) (λ n s some. t.same n s (current n s some)) e b t.refused)

pub trial_below : (arms : List Arms) (ends : List (Option SignedNode)) (signs : List Bool) (uses : List (Signed ℕ)) (size k : ℕ) (changed : List ℕ) (trials : List (Option Trial)) → IsSearch arms ends signs uses size
    → AreTrials arms ends signs uses size changed trials → k < length ends → (trial : Trial) → slice_get trials k ≡ Some (Some trial) → AreBelow (length changed) (looked_pairs trial.looked)
trial_below arms ends signs uses size k changed trials is are lt trial at =
    let t = are.each k trial (get_or ends k None) (get_or signs k true) at (slice_get-get_or ends k None lt) (slice_get-get_or signs k true (omega (arith, is.one_each))) in
    subst (λ n. AreBelow n (looked_pairs trial.looked)) (sym are.changed_count) t.below

-- after a change of a sign
pub trials_changed : (arms : List Arms) (ends : List (Option SignedNode)) (signs : List Bool) (uses new : List (Signed ℕ)) (size after k : ℕ) (changed noted : List ℕ) (trials : List (Option Trial)) (looked : List SignedNode) (c : Bool)
    → AreTrials arms ends signs uses size changed trials → after < size → ((n : ℕ) (s : Bool) → times n s looked ≡ 0 → used new n s ≡ used uses n s)
    → ((n : ℕ) → (get_or noted n 0 ≡ after) ⊎ ((get_or noted n 0 ≡ get_or changed n 0) × ((s : Bool) → times n s looked ≡ 0))) → length noted ≡ length changed
    → AreTrials arms ends (set signs k c) new after noted (set trials k None)
trials_changed arms ends signs uses new size after k changed noted trials looked c are lower elsewhere notes count = record {
  one_each = length-set trials k None ∙ are.one_each;
  changed_count = count ∙ are.changed_count;
  each = λ j trial e b at at_e at_b. by j trial e b at at_e at_b (cases_eq j k);
}
  where
    by : (j : ℕ) (trial : Trial) (e : Option SignedNode) (b : Bool) → slice_get (set trials k None) j ≡ Some (Some trial) → slice_get ends j ≡ Some e → slice_get (set signs k c) j ≡ Some b → (j ≡ k) ⊎ (j ≡ k → ⊥)
        → IsTrial arms e b new noted after trial
    by j trial e b at at_e at_b (inl here) =
        let is : None ≡ Some trial = get_set_same trials k (Some trial) None (subst (λ i. slice_get (set trials k None) i ≡ Some (Some trial)) here at) in
        absurd (cc)
    by j trial e b at at_e at_b (inr other) =
        let t = are.each j trial e b (sym (slice_get-set_other trials k j None other) ∙ at) at_e (sym (slice_get-set_other signs k j c other) ∙ at_b) in
        record { count = t.count; refused = t.refused; same = λ n s le. same n s le t (notes n); later = let l = t.later in omega arith; below = t.below }
      where
        same : (n : ℕ) (s : Bool) → trial.size ≤ get_or noted n 0 → (t : IsTrial arms e b uses changed size trial)
            → (get_or noted n 0 ≡ after) ⊎ ((get_or noted n 0 ≡ get_or changed n 0) × ((s : Bool) → times n s looked ≡ 0)) → used new n s ≡ t.count n s
        same n s le t (inl is) = absurd (let l = t.later in omega arith)
        same n s le t (inr (is, none)) = elsewhere n s (none s) ∙ t.same n s (omega arith)

-- after a trial that lowered nothing
pub trials_kept : (arms : List Arms) (ends : List (Option SignedNode)) (signs : List Bool) (uses new : List (Signed ℕ)) (size after k : ℕ) (changed : List ℕ) (trials : List (Option Trial)) (own : Trial) (d : Option SignedNode) (c : Bool)
    → AreTrials arms ends signs uses size changed trials → after ≤ size → own.size ≡ size → ((n : ℕ) (s : Bool) → used new n s ≡ used uses n s) → IsSignChangeRefused arms (used uses) d c (looked_pairs own.looked)
    → AreBelow (length arms) (looked_pairs own.looked) → slice_get ends k ≡ Some d → slice_get signs k ≡ Some c → AreTrials arms ends signs new after changed (set trials k (Some own))
trials_kept arms ends signs uses new size after k changed trials own d c are low at_size kept refused below at_d at_c = record {
  one_each = length-set trials k (Some own) ∙ are.one_each;
  changed_count = are.changed_count;
  each = λ j trial e b at at_e at_b. by j trial e b at at_e at_b (cases_eq j k);
}
  where
    mine : IsTrial arms d c new changed after own
    mine = record { count = used uses; refused = refused; same = λ n s le. kept n s; later = omega arith; below = below }

    by : (j : ℕ) (trial : Trial) (e : Option SignedNode) (b : Bool) → slice_get (set trials k (Some own)) j ≡ Some (Some trial) → slice_get ends j ≡ Some e → slice_get signs j ≡ Some b → (j ≡ k) ⊎ (j ≡ k → ⊥)
        → IsTrial arms e b new changed after trial
    by j trial e b at at_e at_b (inl here) =
        let is : Some own ≡ Some trial = get_set_same trials k (Some trial) (Some own) (subst (λ i. slice_get (set trials k (Some own)) i ≡ Some (Some trial)) here at) in
        let same_d : d ≡ e = same_Some d e (sym at_d ∙ ap (slice_get ends) (sym here) ∙ at_e) in
        let same_c : c ≡ b = same_Some c b (sym at_c ∙ ap (slice_get signs) (sym here) ∙ at_b) in
        subst (λ t. IsTrial arms e b new changed after t) (same_Some own trial is) (subst (λ o. IsTrial arms o b new changed after own) same_d (subst (λ q. IsTrial arms d q new changed after own) same_c mine))
    by j trial e b at at_e at_b (inr other) =
        let t = are.each j trial e b (sym (slice_get-set_other trials k j (Some own) other) ∙ at) at_e at_b in
        record { count = t.count; refused = t.refused; same = λ n s le. kept n s ∙ t.same n s le; later = let l = t.later in omega arith; below = t.below }
