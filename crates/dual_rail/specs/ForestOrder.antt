-- What forests keep: a pair reads only pairs that stand before it, ends are there, and all is within limits.
use Rattle.std.specs.Prelude.{ℕ, ◌+◌, ◌≤◌, ◌<◌, ◌≡◌, Bool, List, Some, slice_get, length, map, All}
use Rattle.std.specs.List.{range_with_len}
use Rattle.network.specs.Limits.{most_letters, most_signals, most_sinks}
use Rattle.gate_decompose.specs.GatesData.{GatesData}
use Rattle.gate_decompose.specs.GatesOrder.{AreInPlace}
use Rattle.dual_rail.specs.ForestData.{ForestData}
use Rattle.dual_rail.specs.Forests.{IsForestOf, arm_uses, end_uses, left_arm, right_arm}
use Rattle.dual_rail.specs.declared.forest.Arm.{Arm}
use Rattle.dual_rail.specs.declared.forest.Arm.TheVariants.{Literal, Pair as pair_arm}
use Rattle.dual_rail.specs.declared.forest.End.{End}
use Rattle.dual_rail.specs.declared.forest.End.TheVariants.{Const, Literal as literal_end, FromDynamic, FromOutput}
use Rattle.dual_rail.specs.declared.forest.Pair.{Pair}

-- an arm that names a pair names one that stands before this one
abbrev pub ReadsBefore : ℕ → Arm → Type 0
ReadsBefore place (Literal rail) = Unit {0}
ReadsBefore place (pair_arm other) = other < place

abbrev pub AreInOrder : List Pair → Type 0
AreInOrder pairs =
    (place : ℕ) (pair : Pair) → slice_get pairs place ≡ Some pair
    → ReadsBefore place (left_arm pair) × ReadsBefore place (right_arm pair)

-- each literal is one of the forest's leaves
abbrev pub ReadsLeaves : ℕ → Arm → Type 0
ReadsLeaves leaves (Literal rail) = rail.leaf < leaves
ReadsLeaves leaves (pair_arm place) = Unit {0}

abbrev pub HasLeaves : ForestData → Type 0
HasLeaves forest =
    (place : ℕ) (x : Pair) → slice_get forest.pairs place ≡ Some x
    → ReadsLeaves forest.leaves (left_arm x) × ReadsLeaves forest.leaves (right_arm x)

-- an end names a leaf or a pair that is there
abbrev pub IsEndOfForest : ForestData → End → Type 0
IsEndOfForest forest (Const b) = Unit {0}
IsEndOfForest forest (literal_end rail) = rail.leaf < forest.leaves
IsEndOfForest forest (FromDynamic place) = place < length forest.pairs
IsEndOfForest forest (FromOutput place) = place < length forest.pairs

-- pairs and ends name what is there, and each pair has its origin and its number of uses
pub record IsForestInPlace (forest : ForestData) : Type 0 where
  pub in_order : AreInOrder forest.pairs
  pub has_leaves : HasLeaves forest
  pub has_ends : All (IsEndOfForest forest) forest.ends
  pub origin_each : length forest.origin ≡ length forest.pairs
  pub uses_are : forest.uses ≡ map (λ place. arm_uses forest place + end_uses forest place) (range_with_len 0 (length forest.pairs))

-- what the type of forests keeps
pub record IsForest (forest : ForestData) : Type 0 where
  pub in_place : IsForestInPlace forest
  pub few_leaves : forest.leaves ≤ most_signals
  pub few_pairs : length forest.pairs ≤ most_letters + most_letters
  pub few_ends : length forest.ends ≤ most_sinks

-- the forest of gates under signs keeps this
abbrev pub ForestsAreInPlace : Type 0
ForestsAreInPlace =
    (gates : GatesData) (signs : List Bool) (forest : ForestData) → AreInPlace gates → IsForestOf gates signs forest
    → IsForestInPlace forest
