-- The values of the gates of a plan's trees.
use Rattle.std.specs.Prelude.{ℕ, ◌<◌, ◌≡◌, Bool, false, List}
use Rattle.sp_network.specs.Tree.{Tree, joins}
use Rattle.dual_rail.specs.declared.forest.Rail.{Rail}
use Rattle.dual_rail.specs.ForestData.{ForestData}
use Rattle.dual_rail.specs.ForestOrder.{HasLeaves}
use Rattle.dual_rail.specs.ForestValues.{ArePairValues}
use Rattle.gate_decompose.specs.Needed.{signed}
use Rattle.compound_plan.specs.PlanTrees.{IsTreeOf, cell_gate, cell_of, is_kept, rail_gate}

-- the gates of a plan's trees have values: each rail that of its leaf, and the output of each cell that of its root
pub record AreGateValues (forest : ForestData) (kept : List Bool) (leaf pair gate : ℕ → Bool) : Type 0 where
  pub rails : (rail : Rail) → rail.leaf < forest.leaves → gate (rail_gate rail) ≡ signed rail.plus (leaf rail.leaf)
  pub outputs : (place : ℕ) → is_kept kept place ≡ false → gate (cell_gate forest.leaves (cell_of kept place)) ≡ pair place

-- each tree has the value of its root
abbrev pub TreesHaveValues : Type 0
TreesHaveValues =
    (forest : ForestData) (kept : List Bool) (leaf pair gate : ℕ → Bool)
    → HasLeaves forest → ArePairValues forest leaf pair → AreGateValues forest kept leaf pair gate
    → (place : ℕ) (tree : Tree ℕ) → IsTreeOf forest kept place tree → joins gate tree ≡ pair place
