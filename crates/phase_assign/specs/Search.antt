-- What the search for signs keeps: one sign for each sink, the uses of pairs under them and the number of used pairs; and
-- the parts of a pass and of the passes that are behind it.
use Rattle.std.specs.Prelude.{ℕ, ◌+◌, ◌≡◌, ◌≢◌, Bool, true, List, [], length, replicate, Option, Some, slice_get}
use Rattle.gate_decompose.specs.GatesData.{GatesData}
use Rattle.phase_assign.specs.Signs.{IsPassOf, IsTurnOf}
use Rattle.phase_assign.specs.Uses.{AreUses, asked_by_sinks, living, used}
use Rattle.dual_rail.specs.declared.signed.Signed.{Signed}
use Rattle.phase_assign.specs.ArmsData.{ArmsData as Arms}
use Rattle.dual_rail.specs.declared.signed.SignedNode.{SignedNode}

pub record IsSearch (arms : List Arms) (ends : List (Option SignedNode)) (signs : List Bool) (uses : List (Signed ℕ))
    (size : ℕ) : Type 0 where
  pub one_each : length signs ≡ length ends
  pub count : length uses ≡ length arms
  pub uses_are : AreUses arms (used uses) (asked_by_sinks ends signs) [] []
  pub size_is : size ≡ living (used uses) (length arms)

-- a pass as far as this sink: the signs before the first sink and after each
pub record IsPassTo (gates : GatesData) (sink : ℕ) (before after : List Bool) : Type 0 where
  pub each : List (List Bool)
  pub first : slice_get each 0 ≡ Some before
  pub last : slice_get each sink ≡ Some after
  pub turns : (k : ℕ) (from to : List Bool) → slice_get each k ≡ Some from → slice_get each (k + 1) ≡ Some to
      → IsTurnOf gates k from to
  pub count : length each ≡ sink + 1

-- the passes from all plus to these signs, each of which changed some
pub record AreReached (gates : GatesData) (signs : List Bool) : Type 0 where
  pub passes : List (List Bool)
  pub end : ℕ
  pub count : length passes ≡ end + 1
  pub first : slice_get passes 0 ≡ Some (replicate (length gates.sinks) true)
  pub last : slice_get passes end ≡ Some signs
  pub next : (i : ℕ) (from to : List Bool) → slice_get passes i ≡ Some from → slice_get passes (i + 1) ≡ Some to
      → IsPassOf gates from to × (from ≢ to)
