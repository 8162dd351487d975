-- Plans of a forest with the ordinary costs: sets of kept free edges whose trees are within bounds (Zhao, Sapatnekar 1998).
use Rattle.std.specs.Prelude.{Bool, List, ℕ}
use Rattle.sp_network.specs.Tree.{Tree}
use Rattle.cover_plan.specs.Covers.{ordinary_costs}
use Rattle.dual_rail.specs.ForestData.{ForestData}
pub use Rattle.compound_plan.specs.PlanTrees.{IsArmTree, literal, cut, series, parallel, IsFree, IsTreeOf, cell_gate, cell_of, cost_by, is_free, is_kept, rail_gate, roots, tree_cost_by, tree_sum}
pub use Rattle.compound_plan.specs.OrdinaryPlans.{IsLeastPlanBy, IsPlan}

-- with the ordinary costs a tree costs its leaves, and 5 for the rest of its cell
abbrev pub tree_cost : Tree ℕ → ℕ
tree_cost = tree_cost_by ordinary_costs

abbrev pub cost : List (Tree ℕ) → ℕ
cost = cost_by ordinary_costs

-- a plan of least cost: no plan costs less
abbrev pub IsLeastPlan : ForestData → ℕ → ℕ → List Bool → List (Tree ℕ) → Type 0
IsLeastPlan = IsLeastPlanBy ordinary_costs
