-- Plans with the clocks of their levels.
use Rattle.std.specs.Prelude.{ℕ, ◌≡◌, Bool, List, map}
use Rattle.sp_network.specs.declared.plan.GatePlan.{GatePlan}
use Rattle.clock_phase.specs.Levels.{AreLevels, clock_of, greatest}
use Rattle.clock_phase.specs.Plans.{clocks_of, trees_of}
use Rattle.dual_rail.specs.ForestData.{ForestData}
use Rattle.tree_map.specs.LeastPlans.{IsChosenPlan}
use Rattle.tree_map.specs.MappedCover.{plan_trees, root_cell_numbers}

-- the same trees with the clocks of their levels
pub record AreClocked (leaves phases : ℕ) (old new : List GatePlan) : Type 0 where
  pub levels : List ℕ
  pub levels_are : AreLevels leaves (trees_of old) levels
  pub trees : trees_of new ≡ trees_of old
  pub clocks : clocks_of new ≡ map (clock_of phases (greatest levels)) levels

-- the chosen cover of a forest, the numbers of its cells, and their plans with the clocks of their levels
pub record IsClockedCover (forest : ForestData) (w h phases : ℕ) (kept : List Bool) (cells : List ℕ) (plans : List GatePlan) : Type 0 where
  pub chosen : IsChosenPlan forest w h kept (plan_trees plans)
  pub cells_are : cells ≡ root_cell_numbers kept
  pub levels : List ℕ
  pub levels_are : AreLevels forest.leaves (plan_trees plans) levels
  pub clocks_are : clocks_of plans ≡ map (clock_of phases (greatest levels)) levels
