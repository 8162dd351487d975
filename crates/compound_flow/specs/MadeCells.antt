-- Cells of a deck in the making, simple and compound ones: their cards, and what they ask of the circuit that they are appended to.
use Rattle.std.specs.Prelude.{All, List, Some, codes, flat_map, length, map, slice_get, ℕ, ◌++◌, ◌+◌, ◌<◌, ◌≡◌, ◌≤◌}
use Rattle.std.specs.Fmt.{decimal}
use Rattle.std.specs.List.{enumerate_from}
use Rattle.deck.specs.CircuitData.{CircuitData}
use Rattle.deck.specs.NamedDevices.{NamedDevice}
use Rattle.deck.specs.Nets.{net_name}
use Rattle.sp_network.specs.Tree.{EachLeaf}
use Rattle.domino_cell.specs.PushedNames.{IsPort}
use Rattle.clock_phase.specs.Plans.{ReadEarlierCells}
use Rattle.compound_plan.specs.Plans.{CellTrees, compound_costs, cost}
use Rattle.compound_cell.specs.CompoundCells.{named_cell, whole_tree}
use Rattle.compound_plan.specs.CellPlans.{clock_of, trees_of}
use Rattle.compound_plan.specs.declared.cell_plan.CellPlan.{CellPlan}
use Rattle.synth_flow.specs.MadeDecks.{IsBeforeCell}
use Rattle.tree_map.specs.CompoundCover.{cell_trees}

-- plans as plain data: the trees and the clock of each
abbrev pub plain_cells : List CellPlan → List (CellTrees × ℕ)
plain_cells plans = map (λ plan. (trees_of plan, clock_of plan)) plans

-- the cards of cells, from number k on, where each gate has a name
abbrev pub named_cells : (ℕ → List ℕ) → ℕ → List (CellTrees × ℕ) → List (NamedDevice (List ℕ))
named_cells name k cells = flat_map (λ p. named_cell name p.1.1 p.0 p.1.0) (enumerate_from k cells)

-- the gates of each cell, from number k on, have names, which are no nets of its own cell or of a later one
abbrev pub HaveGates : List (List ℕ) → ℕ → List (CellTrees × ℕ) → Type 0
HaveGates names k cells =
    (i : ℕ) (cell : CellTrees × ℕ) → slice_get cells i ≡ Some cell
    → EachLeaf (λ gate. (gate < length names) × IsBeforeCell (k + i) (net_name names gate)) (whole_tree cell.0)

-- the clock of each cell is a port
abbrev pub HaveClocks : CircuitData → List (CellTrees × ℕ) → Type 0
HaveClocks c cells = All (λ cell. IsPort c (codes "ck" ++ decimal cell.1)) cells

-- The plans of cells over so many leaves: a forest has at most 800,000 pairs, each of which adds at most 11 to the cost.
pub record AreCompoundPlans (leaves : ℕ) (plans : List CellPlan) : Type 0 where
  pub few : length plans ≤ 800000
  pub cheap : cost compound_costs (cell_trees plans) ≤ 8800000
  -- each reads rails of the leaves and cells before it
  pub earlier : ReadEarlierCells leaves (map whole_tree (cell_trees plans))
