-- Shapes that make kept free edges a plan.
use Rattle.std.specs.Prelude.{ℕ, ◌≡◌, Bool, true, List, length, Some, slice_get}
use Rattle.sp_network.specs.Tree.{Tree}
use Rattle.dual_rail.specs.declared.forest.Pair.{Pair}
use Rattle.cover_plan.specs.Parts.{Fits, TreeShape, joined_shape}
use Rattle.dual_rail.specs.ForestData.{ForestData}
use Rattle.dual_rail.specs.ForestOrder.{AreInOrder}
use Rattle.dual_rail.specs.Forests.{left_arm, right_arm}
pub use Rattle.compound_plan.specs.PlanParts.{arm_shape}
use Rattle.tree_map.specs.LeastPlans.{IsChosenPlan, IsDecided, operator_of}
use Rattle.tree_map.specs.Plans.{IsFree, IsPlan, is_kept}

-- each pair has the shape of its arms, within the bounds
abbrev pub AreShapes : ForestData → ℕ → ℕ → List Bool → (ℕ → TreeShape) → Type 0
AreShapes forest w h kept shape =
    (place : ℕ) (pair : Pair) → slice_get forest.pairs place ≡ Some pair
    → (shape place ≡ joined_shape (operator_of pair) (arm_shape kept shape (left_arm pair)) (arm_shape kept shape (right_arm pair)))
    × Fits w h (shape place)

-- kept free edges, with such shapes, are a plan
abbrev pub ShapesMakePlans : Type 0
ShapesMakePlans =
    (forest : ForestData) (w h : ℕ) (kept : List Bool) (shape : ℕ → TreeShape) → AreInOrder forest.pairs
    → length kept ≡ length forest.pairs → ((place : ℕ) → is_kept kept place ≡ true → IsFree forest place)
    → AreShapes forest w h kept shape → (trees : List (Tree ℕ)) × IsPlan forest w h kept trees

-- kept free edges, with shapes that the ties decide pair by pair, are the chosen plan
abbrev pub DecidedMakesPlan : Type 0
DecidedMakesPlan =
    (forest : ForestData) (w h : ℕ) (kept : List Bool) (shapes : List TreeShape) → AreInOrder forest.pairs
    → length kept ≡ length forest.pairs → length shapes ≡ length forest.pairs
    → ((place : ℕ) → is_kept kept place ≡ true → IsFree forest place)
    → ((place : ℕ) (pair : Pair) (shape : TreeShape) → slice_get forest.pairs place ≡ Some pair → slice_get shapes place ≡ Some shape
    → IsDecided forest w h kept shapes place pair shape)
    → (trees : List (Tree ℕ)) × IsChosenPlan forest w h kept trees
