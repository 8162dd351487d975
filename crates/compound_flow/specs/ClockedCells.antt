-- The cells of the chosen cover of a forest with compound roots, with the clocks of the levels of their whole trees.
use Rattle.std.specs.Prelude.{Bool, List, map, ℕ, ◌≡◌}
use Rattle.sp_network.specs.declared.plan.GatePlan.{GatePlan}
use Rattle.dual_rail.specs.ForestData.{ForestData}
use Rattle.clock_phase.specs.Levels.{AreLevels, clock_of, greatest}
use Rattle.clock_phase.specs.Plans.{clocks_of}
use Rattle.tree_map.specs.MappedCover.{plan_trees, root_cell_numbers}
use Rattle.compound_plan.specs.Plans.{IsChosenPlan, compound_costs}
use Rattle.compound_cell.specs.CompoundCells.{whole_tree}
use Rattle.compound_plan.specs.declared.cell_plan.CellPlan.{CellPlan}
use Rattle.synth_flow.specs.BareDecks.{named_leaves}
use Rattle.tree_map.specs.CompoundCover.{cell_trees}
use Rattle.compound_flow.specs.WholePlans.{plan_clocks}

-- the numbers of the cells, their plans, and the leaves whose complements are named
pub record IsClockedCells
    (forest : ForestData) (w h phases : ℕ) (cells : List ℕ) (plans : List CellPlan) (complements : List ℕ) : Type 0 where
  pub kept : List Bool
  pub split : List Bool
  pub chosen : IsChosenPlan compound_costs forest w h kept split (cell_trees plans)
  pub cells_are : cells ≡ root_cell_numbers kept
  pub levels : List ℕ
  pub levels_are : AreLevels forest.leaves (map whole_tree (cell_trees plans)) levels
  pub clocks_are : plan_clocks plans ≡ map (clock_of phases (greatest levels)) levels
  -- plans of the whole trees with these clocks, and the complements that they or a plus literal name
  pub wholes : List GatePlan
  pub wholes_are : plan_trees wholes ≡ map whole_tree (cell_trees plans)
  pub whole_clocks : clocks_of wholes ≡ map (clock_of phases (greatest levels)) levels
  pub complements_are : complements ≡ named_leaves wholes forest.ends forest.leaves
