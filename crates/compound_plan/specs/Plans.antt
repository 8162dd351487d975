-- Plans of a forest with compound roots: kept free edges and a set of Ors that are roots of compound cells, what their cells cost, and
-- the plan that the ties choose (Zhao, Sapatnekar 1998).
use Rattle.std.specs.Prelude.{All, Bool, List, Some, false, length, slice_get, sum_by, true, ℕ, ◌+◌, ◌≡◌, ◌≤◌}
use Rattle.std.specs.List.{AllZip}
use Rattle.sp_network.specs.Tree.{Tree, inner_count, leaves}
use Rattle.dual_rail.specs.declared.forest.Arm.{Arm}
use Rattle.dual_rail.specs.declared.forest.Pair.{Pair}
use Rattle.dual_rail.specs.declared.forest.Pair.TheVariants.{Or}
use Rattle.dual_rail.specs.ForestData.{ForestData}
use Rattle.dual_rail.specs.ForestOrder.{AreInOrder}
use Rattle.dual_rail.specs.Forests.{left_arm, right_arm}
use Rattle.compound_plan.specs.Bounds.{IsWithin}
use Rattle.cover_plan.specs.Parts.{Choice, CoverPart, Join, TreeShape}
use Rattle.compound_plan.specs.PlanParts.{IsPartOf, IsTaken, operator_of}
use Rattle.compound_plan.specs.PlanTrees.{IsArmTree, IsFree, IsTreeOf, is_kept, roots, tree_cost_by, tree_sum}
use Rattle.cover_plan.specs.Covers.{AreFirst, Costs, IsCompoundRoot, IsRootShape, IsSimpleRoot}

-- the trees of a cell: of a simple one its tree, of a compound one the left and the right tree
pub data CellTrees : Type 0 where
  Simple : Tree ℕ → CellTrees
  Compound : Tree ℕ → Tree ℕ → CellTrees

-- the cell whose root is this pair; a marked pair is an Or, whose two arms are the trees of a compound cell
abbrev pub IsCellOf : ForestData → List Bool → List Bool → ℕ → CellTrees → Type 0
IsCellOf forest kept split place (Simple tree) = (is_kept split place ≡ false) × IsTreeOf forest kept place tree
IsCellOf forest kept split place (Compound l r) =
    (is_kept split place ≡ true)
    × ((a : Arm) × (b : Arm) × (slice_get forest.pairs place ≡ Some (Or a b)) × IsArmTree forest kept a l × IsArmTree forest kept b r)

-- each tree of a cell is within the bounds by itself
abbrev pub AreWithin : ℕ → ℕ → CellTrees → Type 0
AreWithin w h (Simple tree) = IsWithin w h tree
AreWithin w h (Compound l r) = IsWithin w h l × IsWithin w h r

-- the cost of a cell and of all cells
abbrev pub cell_cost : Costs → CellTrees → ℕ
cell_cost c (Simple tree) = tree_cost_by c tree
cell_cost c (Compound l r) = tree_sum c.series l + tree_sum c.series r + c.compound

abbrev pub cost : Costs → List CellTrees → ℕ
cost c cells = sum_by (cell_cost c) cells

-- a plan, with its cells in the order of their roots
pub record IsPlan (c : Costs) (forest : ForestData) (w h : ℕ) (kept split : List Bool) (cells : List CellTrees) : Type 0 where
  pub one_each : length kept ≡ length forest.pairs
  pub mark_each : length split ≡ length forest.pairs
  pub free : (place : ℕ) → is_kept kept place ≡ true → IsFree forest place
  -- the marked pairs are roots, and there are some only where compound cells are allowed
  pub marked : (place : ℕ) → is_kept split place ≡ true → (is_kept kept place ≡ false) × (c.splits ≡ true)
  pub cells_are : AllZip (IsCellOf forest kept split) (roots kept) cells
  pub within : All (AreWithin w h) cells

-- a plan of least cost: no plan costs less
pub record IsLeastPlan (c : Costs) (forest : ForestData) (w h : ℕ) (kept split : List Bool) (cells : List CellTrees) : Type 0 where
  pub plan : IsPlan c forest w h kept split cells
  pub least : (other marks : List Bool) (more : List CellTrees) → IsPlan c forest w h other marks more → cost c cells ≤ cost c more

-- A pair whose shape is decided, where l and r are the parts below its arms. A kept pair and a simple root take the first two choices
-- that give the shape at least cost, and a simple root has its first shape of least cost, where no compound one costs less. Each
-- arm of a compound root takes its first choice alone.
pub record IsDecided
    (c : Costs) (forest : ForestData) (w h : ℕ) (kept split : List Bool) (shapes : List TreeShape) (place : ℕ) (pair : Pair) (shape : TreeShape)
    : Type 0 where
  pub l : CoverPart
  pub r : CoverPart
  pub left_part : IsPartOf forest (left_arm pair) l
  pub right_part : IsPartOf forest (right_arm pair) r
  pub left : Choice
  pub right : Choice
  pub takes_left : IsTaken forest kept shapes (left_arm pair) left
  pub takes_right : IsTaken forest kept shapes (right_arm pair) right
  pub first : is_kept split place ≡ false → AreFirst c w h (operator_of pair) l r shape left right
  pub root : is_kept kept place ≡ false → is_kept split place ≡ false
      → (is : IsRootShape c w h (Join (operator_of pair) l r) shape) × IsSimpleRoot c w h (Join (operator_of pair) l r) is.sum
  pub compound : is_kept split place ≡ true → IsCompoundRoot c w h (operator_of pair) l r left right

-- the chosen plan, with the shape of each pair
pub record IsChosenPlan (c : Costs) (forest : ForestData) (w h : ℕ) (kept split : List Bool) (cells : List CellTrees) : Type 0 where
  pub plan : IsPlan c forest w h kept split cells
  pub shapes : List TreeShape
  pub one_each : length shapes ≡ length forest.pairs
  pub decided : (place : ℕ) (pair : Pair) (shape : TreeShape)
      → slice_get forest.pairs place ≡ Some pair → slice_get shapes place ≡ Some shape
      → IsDecided c forest w h kept split shapes place pair shape

-- the plan that the ties choose costs no more than any other
abbrev pub ChosenPlanIsLeast : Type 0
ChosenPlanIsLeast =
    (c : Costs) (forest : ForestData) (w h : ℕ) (kept split : List Bool) (cells : List CellTrees) → AreInOrder forest.pairs
    → IsChosenPlan c forest w h kept split cells → IsLeastPlan c forest w h kept split cells

-- and one at most, with its marks and its cells
abbrev pub ChosenPlanIsOne : Type 0
ChosenPlanIsOne =
    (c : Costs) (forest : ForestData) (w h : ℕ) (kept split other marks : List Bool) (cells more : List CellTrees) → AreInOrder forest.pairs
    → IsChosenPlan c forest w h kept split cells → IsChosenPlan c forest w h other marks more → (kept ≡ other) × (split ≡ marks) × (cells ≡ more)

-- a forest has one within bounds of at least 2
abbrev pub ChosenPlanIsThere : Type 0
ChosenPlanIsThere =
    (c : Costs) (forest : ForestData) (w h : ℕ) → 2 ≤ w → 2 ≤ h → AreInOrder forest.pairs
    → (kept : List Bool) × (split : List Bool) × (cells : List CellTrees) × IsChosenPlan c forest w h kept split cells

-- the costs of cells with precharged inner nets, and compound cells: a device for each leaf and for each series node, 4 for a simple
-- cell (precharge, foot and inverter) and 8 for a compound one (two of each of the first, and the static gate of two nets)
abbrev pub compound_costs : Costs
compound_costs = record { series = 1; simple = 4; splits = true; compound = 8 }

abbrev pub CompoundCosts : Type 0
CompoundCosts =
    ((t : Tree ℕ) → cell_cost compound_costs (Simple t) ≡ leaves t + inner_count t + 4)
    × ((l r : Tree ℕ) → cell_cost compound_costs (Compound l r) ≡ leaves l + inner_count l + (leaves r + inner_count r) + 8)
