-- The plan of a forest that the ties choose, by the least costs of the parts below its pairs, at the ordinary costs.
use Rattle.std.specs.Prelude.{ℕ, ◌≤◌, ◌≡◌, Bool, List}
use Rattle.sp_network.specs.Tree.{Tree}
use Rattle.cover_plan.specs.Covers.{ordinary_costs}
use Rattle.cover_plan.specs.Parts.{TreeShape}
use Rattle.dual_rail.specs.declared.forest.Pair.{Pair}
use Rattle.dual_rail.specs.ForestData.{ForestData}
use Rattle.dual_rail.specs.ForestOrder.{AreInOrder}
use Rattle.tree_map.specs.Plans.{IsLeastPlan}
pub use Rattle.compound_plan.specs.OrdinaryPlans.{IsChosenPlanBy, IsDecidedBy}
pub use Rattle.compound_plan.specs.PlanParts.{IsPartOf, literal, shared, free, IsTaken, operator_of}

-- a pair whose shape is decided, and the plan that the ties choose
abbrev pub IsDecided : ForestData → ℕ → ℕ → List Bool → List TreeShape → ℕ → Pair → TreeShape → Type 0
IsDecided = IsDecidedBy ordinary_costs

abbrev pub IsChosenPlan : ForestData → ℕ → ℕ → List Bool → List (Tree ℕ) → Type 0
IsChosenPlan = IsChosenPlanBy ordinary_costs

-- the plan that the ties choose costs no more than any other
abbrev pub ChosenPlanIsLeast : Type 0
ChosenPlanIsLeast =
    (forest : ForestData) (w h : ℕ) (kept : List Bool) (trees : List (Tree ℕ)) → AreInOrder forest.pairs
    → IsChosenPlan forest w h kept trees → IsLeastPlan forest w h kept trees

-- a forest has a chosen plan within bounds of at least 2
abbrev pub ChosenPlanIsThere : Type 0
ChosenPlanIsThere =
    (forest : ForestData) (w h : ℕ) → 2 ≤ w → 2 ≤ h → AreInOrder forest.pairs
    → (kept : List Bool) × (trees : List (Tree ℕ)) × IsChosenPlan forest w h kept trees

-- and one at most, with its trees
abbrev pub ChosenPlanIsOne : Type 0
ChosenPlanIsOne =
    (forest : ForestData) (w h : ℕ) (kept other : List Bool) (trees more : List (Tree ℕ)) → AreInOrder forest.pairs
    → IsChosenPlan forest w h kept trees → IsChosenPlan forest w h other more → (kept ≡ other) × (trees ≡ more)
