-- The trees and the clocks of the plans of a cover with compound roots.
use Rattle.std.specs.Prelude.{ℕ, ◌≡◌, All, Bool, List, Some, map, slice_get, true}
use Rattle.cover_plan.specs.Covers.{is_parallel}
use Rattle.dual_rail.specs.declared.forest.Pair.{Pair}
use Rattle.dual_rail.specs.ForestData.{ForestData}
use Rattle.compound_plan.specs.CellPlans.{clock_of, trees_of}
use Rattle.compound_plan.specs.PlanParts.{operator_of}
use Rattle.compound_plan.specs.PlanTrees.{is_kept}
use Rattle.compound_plan.specs.Plans.{CellTrees}
use Rattle.compound_plan.specs.declared.cell_plan.CellPlan.{CellPlan}

abbrev pub cell_trees : List CellPlan → List CellTrees
cell_trees plans = map trees_of plans

-- no clock is assigned yet: each is the first
abbrev pub HaveFirstClocks : List CellPlan → Type 0
HaveFirstClocks plans = All (λ plan. clock_of plan ≡ 1) plans

-- each marked pair is an Or
abbrev pub AreOrs : ForestData → List Bool → Type 0
AreOrs forest split =
    (place : ℕ) (pair : Pair) → is_kept split place ≡ true → slice_get forest.pairs place ≡ Some pair → is_parallel (operator_of pair) ≡ true
