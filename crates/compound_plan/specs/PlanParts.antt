-- The parts below the pairs of a forest, and what a plan does with an arm (Zhao, Sapatnekar 1998).
use Rattle.std.specs.Prelude.{ℕ, ◌≡◌, Bool, true, false, cond, List, Some, slice_get}
use Rattle.dual_rail.specs.declared.forest.Arm.{Arm}
use Rattle.dual_rail.specs.declared.forest.Arm.TheVariants.{Literal, Pair as pair_arm}
use Rattle.dual_rail.specs.declared.forest.Pair.{Pair}
use Rattle.dual_rail.specs.declared.forest.Pair.TheVariants.{And, Or}
use Rattle.dual_rail.specs.declared.forest.Rail.{Rail}
use Rattle.cover_plan.specs.Parts.{Operator, InSeries, InParallel, CoverPart, End, Join, TreeShape, Choice, Keep, CutOff, Nothing, leaf_shape}
use Rattle.dual_rail.specs.ForestData.{ForestData}
use Rattle.dual_rail.specs.Forests.{left_arm, right_arm}
use Rattle.compound_plan.specs.PlanTrees.{IsFree, is_kept}

-- the operator of a pair
abbrev pub operator_of : Pair → Operator
operator_of (And a b) = InSeries
operator_of (Or a b) = InParallel

-- the part below an arm: a literal and an edge that isn't free are ends, and a free edge leads to the part below its pair
pub data IsPartOf (forest : ForestData) : Arm → CoverPart → Type 0 where
  literal : {rail : Rail} → IsPartOf forest (Literal rail) End
  shared : {place : ℕ} → (IsFree forest place → ⊥) → IsPartOf forest (pair_arm place) End
  free : {place : ℕ} {pair : Pair} {l r : CoverPart} → IsFree forest place → slice_get forest.pairs place ≡ Some pair
      → IsPartOf forest (left_arm pair) l → IsPartOf forest (right_arm pair) r
      → IsPartOf forest (pair_arm place) (Join (operator_of pair) l r)

-- what a plan does with an arm, where each pair has a shape
abbrev pub IsTaken : ForestData → List Bool → List TreeShape → Arm → Choice → Type 0
IsTaken forest kept shapes (Literal rail) choice = choice ≡ Nothing
IsTaken forest kept shapes (pair_arm place) (Keep shape) = (is_kept kept place ≡ true) × (slice_get shapes place ≡ Some shape)
IsTaken forest kept shapes (pair_arm place) CutOff = (is_kept kept place ≡ false) × IsFree forest place
IsTaken forest kept shapes (pair_arm place) Nothing = IsFree forest place → ⊥

-- the shape of an arm in the tree above it, where each pair has a shape
abbrev pub arm_shape : List Bool → (ℕ → TreeShape) → Arm → TreeShape
arm_shape kept shape (Literal rail) = leaf_shape
arm_shape kept shape (pair_arm place) = cond (is_kept kept place) (shape place) leaf_shape
