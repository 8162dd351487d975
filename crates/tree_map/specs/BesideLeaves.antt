-- The choices for the arms of a pair where one of them is a leaf.
use Rattle.std.specs.Prelude.{ℕ, ◌+◌, ◌≡◌, ◌⊎◌, Bool, List, Option, Some}
use Rattle.cover_plan.specs.Parts.{TreeShape, joined_shape, leaf_shape}
use Rattle.dual_rail.specs.declared.forest.Arm.{Arm}
use Rattle.tree_map.specs.CoverSums.{SumsData, sum_at}
use Rattle.tree_map.specs.LeastPlans.{operator_of}
use Rattle.tree_map.specs.Offers.{HasNoFreePair, IsFreePair}
use Rattle.tree_map.specs.declared.offers.Choice.{Choice}
use Rattle.tree_map.specs.declared.offers.Choice.TheVariants.{Keep as offered_keep, CutOff as offered_cut, Nothing as offered_nothing}
use Rattle.tree_map.specs.declared.ties.Wanted.{Wanted}

-- a tree of this shape, with its sum, beside a leaf gives what is wanted
pub record IsBesideLeaf (wanted : Wanted) (sum_of : TreeShape → Option ℕ) (shape : TreeShape) : Type 0 where
  pub sum : ℕ
  pub sum_is : sum_of shape ≡ Some sum
  pub shape_is : joined_shape (operator_of wanted.pair) shape leaf_shape ≡ wanted.shape
  pub whole : sum + 1 ≡ wanted.sum

abbrev pub NoneBesideLeaf : Wanted → (TreeShape → Option ℕ) → Type 0
NoneBesideLeaf wanted sum_of = (shape : TreeShape) → IsBesideLeaf wanted sum_of shape → ⊥

-- the pair below an arm beside a leaf is kept in a shape that gives what is wanted, or cut off where there is none
abbrev pub IsPicked : Wanted → (TreeShape → Option ℕ) → Choice → Type 0
IsPicked wanted sum_of (offered_keep shape) = IsBesideLeaf wanted sum_of shape
IsPicked wanted sum_of offered_cut = NoneBesideLeaf wanted sum_of
IsPicked wanted sum_of offered_nothing = ⊥

-- so it is for the arm that a free edge leaves, and nothing is done where none does
abbrev pub IsArmPicked : Wanted → SumsData → List Bool → Arm → Choice → Type 0
IsArmPicked wanted t frees arm choice = (place : ℕ) × IsFreePair frees arm place × IsPicked wanted (sum_at t place) choice

abbrev pub IsLeafArm : List Bool → Arm → Choice → Type 0
IsLeafArm frees arm choice = HasNoFreePair frees arm × (choice ≡ offered_nothing)

-- the choices for two arms, of which one is a leaf
abbrev pub ArePicked : Wanted → SumsData → List Bool → Arm → Arm → Choice → Choice → Type 0
ArePicked wanted t frees left_arm right_arm left right =
    (IsLeafArm frees left_arm left × IsLeafArm frees right_arm right)
    ⊎ ((IsArmPicked wanted t frees left_arm left × IsLeafArm frees right_arm right)
    ⊎ (IsLeafArm frees left_arm left × IsArmPicked wanted t frees right_arm right))
