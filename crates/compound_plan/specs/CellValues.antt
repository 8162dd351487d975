-- The values of the cells of a plan with compound roots (Rabaey, Digital Integrated Circuits: compound domino).
use Rattle.std.specs.Prelude.{Bool, List, cond, true, ℕ, ◌≡◌}
use Rattle.sp_network.specs.Tree.{joins}
use Rattle.dual_rail.specs.ForestData.{ForestData}
use Rattle.dual_rail.specs.ForestOrder.{HasLeaves}
use Rattle.dual_rail.specs.ForestValues.{ArePairValues}
use Rattle.compound_plan.specs.PlanValues.{AreGateValues}
use Rattle.compound_plan.specs.Plans.{CellTrees, Compound, IsCellOf, Simple}

-- whether one of the trees of a cell joins its ends
abbrev pub cell_bit : (ℕ → Bool) → CellTrees → Bool
cell_bit gate (Simple tree) = joins gate tree
cell_bit gate (Compound l r) = cond (joins gate l) true (joins gate r)

-- each cell, simple or compound, has the value of its root
abbrev pub CellsHaveValues : Type 0
CellsHaveValues =
    (forest : ForestData) (kept split : List Bool) (leaf pair gate : ℕ → Bool)
    → HasLeaves forest → ArePairValues forest leaf pair → AreGateValues forest kept leaf pair gate
    → (place : ℕ) (cell : CellTrees) → IsCellOf forest kept split place cell → cell_bit gate cell ≡ pair place
