-- The trees and the clocks of the plans of a cover, and the numbers of its cells.
use Rattle.std.specs.Prelude.{ℕ, ◌≡◌, Bool, List, length, map, All}
use Rattle.std.specs.List.{range_with_len}
use Rattle.sp_network.specs.Tree.{Tree}
use Rattle.sp_network.specs.TypedTree.{tree_of}
use Rattle.sp_network.specs.declared.plan.GatePlan.{GatePlan}
use Rattle.dual_rail.specs.declared.forest.Arm.{Arm}
use Rattle.dual_rail.specs.ForestData.{ForestData}
use Rattle.dual_rail.specs.ForestOrder.{ReadsBefore, ReadsLeaves}
use Rattle.tree_map.specs.Plans.{cell_of}

abbrev pub plan_trees : List GatePlan → List (Tree ℕ)
plan_trees plans = map (λ (p : GatePlan). tree_of p.tree) plans

-- no clock is assigned yet: each is the first
abbrev pub HaveFirstClock : List GatePlan → Type 0
HaveFirstClock plans = All (λ (p : GatePlan). p.clock ≡ 1) plans

-- for each pair the number of the cell that it would be the root of
abbrev pub root_cell_numbers : List Bool → List ℕ
root_cell_numbers kept = map (cell_of kept) (range_with_len 0 (length kept))

-- the arm is a leaf or a pair of the forest
abbrev pub IsArmInForest : ForestData → Arm → Type 0
IsArmInForest forest arm = ReadsBefore (length forest.pairs) arm × ReadsLeaves forest.leaves arm
