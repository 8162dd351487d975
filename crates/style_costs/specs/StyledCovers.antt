-- The chosen plan of a forest in a style: the ties over its costs (Zhao, Sapatnekar 1998).
use Rattle.std.specs.Prelude.{Bool, List, ℕ, ◌↔◌}
use Rattle.sp_network.specs.Tree.{Tree}
use Rattle.domino_cell.specs.declared.style.Style.{Style}
use Rattle.dual_rail.specs.ForestData.{ForestData}
use Rattle.dual_rail.specs.ForestOrder.{AreInOrder}
use Rattle.style_costs.specs.Styles.{IsLeastPlanIn, costs_of}
use Rattle.tree_map.specs.LeastPlans.{IsChosenPlan, IsChosenPlanBy}
use Rattle.tree_map.specs.Plans.{IsLeastPlan}

abbrev pub IsChosenPlanIn : Style → ForestData → ℕ → ℕ → List Bool → List (Tree ℕ) → Type 0
IsChosenPlanIn style = IsChosenPlanBy (costs_of style)

-- the chosen plan is the same in both styles: that of the leaves and 5 for each tree
abbrev pub ChosenPlanIsSame : Type 0
ChosenPlanIsSame =
    (style : Style) (forest : ForestData) (w h : ℕ) (kept : List Bool) (trees : List (Tree ℕ))
    → IsChosenPlanIn style forest w h kept trees ↔ IsChosenPlan forest w h kept trees

-- the plans of least cost are the same in both styles
abbrev pub LeastPlansAreSame : Type 0
LeastPlansAreSame =
    (style : Style) (forest : ForestData) (w h : ℕ) (kept : List Bool) (trees : List (Tree ℕ)) → AreInOrder forest.pairs
    → IsLeastPlanIn style forest w h kept trees ↔ IsLeastPlan forest w h kept trees
