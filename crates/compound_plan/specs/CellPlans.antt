-- The trees and the clock of the plan of a simple or a compound cell.
use Rattle.std.specs.Prelude.{ℕ}
use Rattle.sp_network.specs.TypedTree.{tree_of}
use Rattle.compound_plan.specs.Plans.{CellTrees, Compound, Simple}
use Rattle.compound_plan.specs.declared.cell_plan.CellPlan.{CellPlan}
use Rattle.compound_plan.specs.declared.cell_plan.CellPlan.TheVariants.{Compound as compound, Simple as simple}

-- the trees of a plan, and the number of its clock
abbrev pub trees_of : CellPlan → CellTrees
trees_of (simple plan) = Simple (tree_of plan.tree)
trees_of (compound left right clock) = Compound (tree_of left) (tree_of right)

abbrev pub clock_of : CellPlan → ℕ
clock_of (simple plan) = plan.clock
clock_of (compound left right clock) = clock
