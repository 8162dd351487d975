-- Trials of sinks that lowered nothing, and which later states they still hold for.
use Rattle.std.specs.Prelude.{ℕ, ◌≤◌, ◌≡◌, Bool, List, Option, Some, length, slice_get, get_or}
use Rattle.phase_assign.specs.LookedPairs.{looked_pairs}
use Rattle.phase_assign.specs.Refusals.{IsSignChangeRefused}
use Rattle.phase_assign.specs.Uses.{AreBelow, used}
use Rattle.dual_rail.specs.declared.signed.Signed.{Signed}
use Rattle.phase_assign.specs.ArmsData.{ArmsData as Arms}
use Rattle.dual_rail.specs.declared.signed.SignedNode.{SignedNode}
use Rattle.phase_assign.specs.declared.trials.Trial.{Trial}

-- a trial of a sink, since which the uses of pairs have changed only at nodes that say so
pub record IsTrial (arms : List Arms) (target : Option SignedNode) (sign : Bool) (uses : List (Signed ℕ)) (changed : List ℕ) (size : ℕ)
    (trial : Trial) : Type 0 where
  pub count : ℕ → Bool → ℕ
  pub refused : IsSignChangeRefused arms count target sign (looked_pairs trial.looked)
  pub same : (n : ℕ) (s : Bool) → trial.size ≤ get_or changed n 0 → used uses n s ≡ count n s
  pub later : size ≤ trial.size
  pub below : AreBelow (length arms) (looked_pairs trial.looked)

-- trials of some sinks
pub record AreTrials (arms : List Arms) (ends : List (Option SignedNode)) (signs : List Bool) (uses : List (Signed ℕ))
    (size : ℕ) (changed : List ℕ) (trials : List (Option Trial)) : Type 0 where
  pub one_each : length trials ≡ length ends
  pub changed_count : length changed ≡ length arms
  pub each : (k : ℕ) (trial : Trial) (e : Option SignedNode) (b : Bool) → slice_get trials k ≡ Some (Some trial) → slice_get ends k ≡ Some e
      → slice_get signs k ≡ Some b → IsTrial arms e b uses changed size trial

-- so many sinks, none of which has a trial
abbrev pub HasNoTrials : ℕ → List (Option Trial) → Type 0
HasNoTrials sinks trials = (length trials ≡ sinks) × ((k : ℕ) (trial : Trial) → slice_get trials k ≡ Some (Some trial) → ⊥)
