-- Marks and shapes of the pairs of a forest, as far as they have taken their choices.
use Rattle.std.proofs.Common.{Bool, Some, false, slice_get, true, ℕ, ◌≡◌, ◌≤◌}
use Rattle.dual_rail.specs.declared.forest.Arm.{Arm}
use Rattle.dual_rail.specs.declared.forest.Arm.TheVariants.{Literal, Pair as pair_arm}
use Rattle.dual_rail.specs.declared.forest.Pair.{Pair}
use Rattle.dual_rail.specs.ForestData.{ForestData}
use Rattle.dual_rail.specs.Forests.{left_arm, right_arm}
use Rattle.cover_plan.specs.Covers.{AreFirst, Costs, IsCompoundRoot, IsLeast, IsRootShape, IsSimpleRoot}
use Rattle.cover_plan.specs.Parts.{Choice, CoverPart, CutOff, Join, Keep, Nothing, TreeShape}
use Rattle.compound_plan.specs.PlanParts.{IsPartOf, operator_of}
use Rattle.compound_plan.specs.PlanTrees.{IsFree}
use Rattle.compound_plan.proofs.OneUser.{Names}

-- what is done with an arm, where each pair has a mark and a shape
abbrev pub TakenBy : ForestData → (ℕ → Bool) → (ℕ → TreeShape) → Arm → Choice → Type 0
TakenBy forest K S (Literal rail) choice = choice ≡ Nothing
TakenBy forest K S (pair_arm q) (Keep s) = (K q ≡ true) × (S q ≡ s)
TakenBy forest K S (pair_arm q) CutOff = (K q ≡ false) × IsFree forest q
TakenBy forest K S (pair_arm q) Nothing = IsFree forest q → ⊥

pub record DecidedBy (c : Costs) (forest : ForestData) (w h : ℕ) (K D : ℕ → Bool) (S : ℕ → TreeShape) (p : ℕ) (x : Pair) : Type 0 where
  pub l : CoverPart
  pub r : CoverPart
  pub left_part : IsPartOf forest (left_arm x) l
  pub right_part : IsPartOf forest (right_arm x) r
  pub left : Choice
  pub right : Choice
  pub takes_left : TakenBy forest K S (left_arm x) left
  pub takes_right : TakenBy forest K S (right_arm x) right
  pub first : D p ≡ false → AreFirst c w h (operator_of x) l r (S p) left right
  pub root : K p ≡ false → D p ≡ false → (is : IsRootShape c w h (Join (operator_of x) l r) (S p)) × IsSimpleRoot c w h (Join (operator_of x) l r) is.sum
  pub compound : D p ≡ true → IsCompoundRoot c w h (operator_of x) l r left right

-- marks of kept pairs and of compound roots, and shapes, where the pairs from b on have taken their choices
pub record State (c : Costs) (forest : ForestData) (w h b : ℕ) (K D : ℕ → Bool) (S : ℕ → TreeShape) : Type 0 where
  pub kept_free : (q : ℕ) → K q ≡ true → IsFree forest q
  pub users : (q u : ℕ) (x : Pair) → K q ≡ true → slice_get forest.pairs u ≡ Some x → Names q x → b ≤ u
  pub least : (q : ℕ) (x : Pair) (l r : CoverPart) → K q ≡ true → slice_get forest.pairs q ≡ Some x → IsPartOf forest (left_arm x) l → IsPartOf forest (right_arm x) r
      → (m : ℕ) × IsLeast c w h (Join (operator_of x) l r) (S q) m
  pub marked : (q : ℕ) → D q ≡ true → (K q ≡ false) × (b ≤ q)
  pub decided : (p : ℕ) (x : Pair) → b ≤ p → slice_get forest.pairs p ≡ Some x → DecidedBy c forest w h K D S p x
