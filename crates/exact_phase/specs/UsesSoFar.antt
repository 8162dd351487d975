-- The uses of pairs by the first sinks, which have signs.
use Rattle.std.specs.Prelude.{ℕ, ◌≡◌, Bool, List, [], length, Option}
use Rattle.phase_assign.specs.Uses.{AreUses, asked_by_sinks, living, used}
use Rattle.dual_rail.specs.declared.signed.Signed.{Signed}
use Rattle.phase_assign.specs.ArmsData.{ArmsData as Arms}
use Rattle.dual_rail.specs.declared.signed.SignedNode.{SignedNode}

-- the uses under the signs of the first sinks, and the number of used pairs
pub record AreUsesSoFar (arms : List Arms) (ends : List (Option SignedNode)) (signs : List Bool) (uses : List (Signed ℕ)) (size : ℕ) : Type 0 where
  pub count : length uses ≡ length arms
  pub uses_are : AreUses arms (used uses) (asked_by_sinks ends signs) [] []
  pub size_is : size ≡ living (used uses) (length arms)

-- all counts are as before
pub record AreAsBefore (before : List (Signed ℕ)) (size : ℕ) (after : List (Signed ℕ)) (new_size : ℕ) : Type 0 where
  pub count : length after ≡ length before
  pub same : (n : ℕ) (s : Bool) → used after n s ≡ used before n s
  pub size_same : new_size ≡ size
