-- Cells by their whole trees: a compound cell has its two trees side by side.
use Rattle.std.specs.Prelude.{Bool, List, false, map, true, ℕ}
use Rattle.std.specs.List.{zip}
use Rattle.sp_network.specs.Tree.{Leaf, Parallel, Series, Tree}
use Rattle.compound_plan.specs.Plans.{CellTrees, Compound, Simple}
use Rattle.compound_plan.specs.CellPlans.{clock_of}
use Rattle.compound_plan.specs.declared.cell_plan.CellPlan.{CellPlan}

abbrev pub is_compound : CellTrees → Bool
is_compound (Simple tree) = false
is_compound (Compound l r) = true

-- the cell of a whole tree, where it is compound or not
abbrev pub parted : Bool → Tree ℕ → CellTrees
parted false tree = Simple tree
parted true (Leaf gate) = Simple (Leaf gate)
parted true (Series l r) = Simple (Series l r)
parted true (Parallel l r) = Compound l r

abbrev pub parted_trees : List Bool → List (Tree ℕ) → List CellTrees
parted_trees compound trees = map (λ p. parted p.1 p.0) (zip trees compound)

-- the number of each plan's clock
abbrev pub plan_clocks : List CellPlan → List ℕ
plan_clocks plans = map clock_of plans
