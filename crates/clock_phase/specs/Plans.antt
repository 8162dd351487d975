-- The trees and the clocks of plans of cells, and plans that read only cells before them (Rabaey, Digital Integrated Circuits: domino
-- logic).
use Rattle.std.specs.Prelude.{ℕ, ◌+◌, ◌*◌, ◌<◌, ◌≡◌, List, map, Some, slice_get}
use Rattle.sp_network.specs.Tree.{Tree, EachLeaf}
use Rattle.sp_network.specs.TypedTree.{tree_of}
use Rattle.sp_network.specs.declared.plan.GatePlan.{GatePlan}

abbrev pub trees_of : List GatePlan → List (Tree ℕ)
trees_of plans = map (λ (p : GatePlan). tree_of p.tree) plans

abbrev pub clocks_of : List GatePlan → List ℕ
clocks_of plans = map (λ (p : GatePlan). p.clock) plans

-- the gates of each tree are rails of the leaves, two each, and outputs of cells before it
abbrev pub ReadEarlierCells : ℕ → List (Tree ℕ) → Type 0
ReadEarlierCells leaf_count trees =
    (k : ℕ) (tree : Tree ℕ) → slice_get trees k ≡ Some tree → EachLeaf (λ gate. gate < 2 * leaf_count + k) tree

-- a domino cell: its tree over gates, and the number of its clock
pub record CellPlan : Type 0 where
  pub tree : Tree ℕ
  pub clock : ℕ

-- a cell as plain data
abbrev pub cell_plan : GatePlan → CellPlan
cell_plan p = record { tree = tree_of p.tree; clock = p.clock }
