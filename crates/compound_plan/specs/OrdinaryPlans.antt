-- Ordinary plans of a forest, those of simple cells alone; where costs have no compound cells, the chosen plan is one of them: of least
-- cost, and the one that the ties choose (Zhao, Sapatnekar 1998).
use Rattle.std.specs.Prelude.{All, Bool, List, Some, false, length, map, slice_get, true, ℕ, ◌≡◌, ◌≤◌}
use Rattle.std.specs.List.{AllZip}
use Rattle.sp_network.specs.Tree.{Tree}
use Rattle.dual_rail.specs.declared.forest.Pair.{Pair}
use Rattle.dual_rail.specs.ForestData.{ForestData}
use Rattle.dual_rail.specs.ForestOrder.{AreInOrder}
use Rattle.dual_rail.specs.Forests.{left_arm, right_arm}
use Rattle.cover_plan.specs.Parts.{Choice, CoverPart, Join, TreeShape}
use Rattle.cover_plan.specs.Covers.{AreFirst, Costs, IsRootShape}
use Rattle.compound_plan.specs.Bounds.{IsWithin}
use Rattle.compound_plan.specs.PlanParts.{IsPartOf, IsTaken, operator_of}
use Rattle.compound_plan.specs.PlanTrees.{IsFree, IsTreeOf, cost_by, is_kept, roots}
use Rattle.compound_plan.specs.Plans.{CellTrees, IsChosenPlan, Simple}

-- a plan, and its trees in the order of their roots
pub record IsPlan (forest : ForestData) (w h : ℕ) (kept : List Bool) (trees : List (Tree ℕ)) : Type 0 where
  pub one_each : length kept ≡ length forest.pairs
  pub free : (place : ℕ) → is_kept kept place ≡ true → IsFree forest place
  pub trees_are : AllZip (IsTreeOf forest kept) (roots kept) trees
  pub within : All (IsWithin w h) trees

-- a plan of least cost: no plan costs less
pub record IsLeastPlanBy (c : Costs) (forest : ForestData) (w h : ℕ) (kept : List Bool) (trees : List (Tree ℕ)) : Type 0 where
  pub plan : IsPlan forest w h kept trees
  pub least : (other : List Bool) (more : List (Tree ℕ)) → IsPlan forest w h other more → cost_by c trees ≤ cost_by c more

-- A pair whose shape is decided, where l and r are the parts below its arms: a root has its first shape of least cost, and
-- each pair takes the first two choices that give its shape at least cost.
pub record IsDecidedBy
    (c : Costs) (forest : ForestData) (w h : ℕ) (kept : List Bool) (shapes : List TreeShape) (place : ℕ) (pair : Pair) (shape : TreeShape)
    : Type 0 where
  pub l : CoverPart
  pub r : CoverPart
  pub left_part : IsPartOf forest (left_arm pair) l
  pub right_part : IsPartOf forest (right_arm pair) r
  pub root : is_kept kept place ≡ false → IsRootShape c w h (Join (operator_of pair) l r) shape
  pub left : Choice
  pub right : Choice
  pub takes_left : IsTaken forest kept shapes (left_arm pair) left
  pub takes_right : IsTaken forest kept shapes (right_arm pair) right
  pub first : AreFirst c w h (operator_of pair) l r shape left right

-- the chosen plan, with the shape of each pair
pub record IsChosenPlanBy (c : Costs) (forest : ForestData) (w h : ℕ) (kept : List Bool) (trees : List (Tree ℕ)) : Type 0 where
  pub plan : IsPlan forest w h kept trees
  pub shapes : List TreeShape
  pub one_each : length shapes ≡ length forest.pairs
  pub decided : (place : ℕ) (pair : Pair) (shape : TreeShape)
      → slice_get forest.pairs place ≡ Some pair → slice_get shapes place ≡ Some shape → IsDecidedBy c forest w h kept shapes place pair shape

-- where costs have no compound cells, the chosen plan is an ordinary one of least cost
abbrev pub OrdinaryPlansAreLeast : Type 0
OrdinaryPlansAreLeast =
    (c : Costs) (forest : ForestData) (w h : ℕ) (kept split : List Bool) (cells : List CellTrees) → c.splits ≡ false → AreInOrder forest.pairs
    → IsChosenPlan c forest w h kept split cells
    → (trees : List (Tree ℕ)) × (cells ≡ map Simple trees) × IsLeastPlanBy c forest w h kept trees

-- the ties choose the same plan: the ordinary chosen plan, without marks
pub record OrdinaryPlansAreChosen : Type 0 where
  pub ordinary : (c : Costs) (forest : ForestData) (w h : ℕ) (kept split : List Bool) (cells : List CellTrees) → c.splits ≡ false
      → IsChosenPlan c forest w h kept split cells
      → (trees : List (Tree ℕ)) × (cells ≡ map Simple trees) × IsChosenPlanBy c forest w h kept trees
  pub compound : (c : Costs) (forest : ForestData) (w h : ℕ) (kept : List Bool) (trees : List (Tree ℕ)) → c.splits ≡ false
      → IsChosenPlanBy c forest w h kept trees
      → IsChosenPlan c forest w h kept (map (λ b. false) kept) (map Simple trees)
