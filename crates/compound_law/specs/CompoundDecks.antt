-- Domino decks of a network with simple and compound cells, whose inner nets are precharged: what a circuit of synthesis looks like
-- within its bounds and clocks (Rabaey, Digital Integrated Circuits: compound domino).
use Rattle.std.specs.Prelude.{ℕ, ◌+◌, ◌-◌, ◌≤◌, ◌≡◌, Bool, List, None, Some, length, map, All}
use Rattle.std.specs.List.{AllZip, zip}
use Rattle.deck.specs.CircuitData.{CircuitData}
use Rattle.deck.specs.Escapes.{escaped}
use Rattle.deck.specs.Pushes.{new_circuit}
use Rattle.sp_network.specs.Tree.{map_tree}
use Rattle.network.specs.NetworkData.{NetworkData}
use Rattle.gate_decompose.specs.GateNodes.{AreGatesOf}
use Rattle.gate_decompose.specs.GatesData.{GatesData}
use Rattle.gate_decompose.specs.Sinks.{leaf_count, sink_signals}
use Rattle.dual_rail.specs.ForestData.{ForestData}
use Rattle.dual_rail.specs.Forests.{IsForestOf}
use Rattle.phase_assign.specs.Signs.{AreChosen}
use Rattle.clock_phase.specs.Levels.{AreLevels, clock_of, greatest}
use Rattle.compound_plan.specs.Plans.{AreWithin, CellTrees, Compound, IsChosenPlan, IsPlan, Simple, compound_costs}
use Rattle.domino_cell.specs.declared.style.Style.TheVariants.{Precharge as WithPrecharge}
use Rattle.compound_cell.specs.CompoundCells.{whole_tree}
use Rattle.domino_law.specs.Shape.{DominoCell, Shape}
use Rattle.domino_law.specs.Spelled.{named_circuit}
use Rattle.deck_form.specs.ChosenDecks.{end_at_cell}
use Rattle.deck_form.specs.DeckNets.{CellPlan, SinkEnd}
use Rattle.deck_form.specs.DominoDecks.{HasSign, cells_of, complements_of, outs_of, phases_of_sinks, pins_of, starts_of}
use Rattle.deck_form.specs.NamedDecks.{IsEndIn, ReadsBelow}
use Rattle.deck_law.specs.NetNames.{deck_name, deck_shape, gate_of}

-- the whole tree of each cell, with the clock of its level
abbrev pub whole_cells : ℕ → List ℕ → List CellTrees → List CellPlan
whole_cells phases levels cells = cells_of phases levels (map whole_tree cells)

-- a cell of a deck, whose clock is given from 1; both trees of a compound one have it
abbrev pub cell_shape : ℕ → ℕ → ℕ → CellTrees → DominoCell
cell_shape pins leaf_count clock (Simple tree) = record { clock = clock - 1; tree = map_tree (gate_of pins leaf_count) tree; right = None }
cell_shape pins leaf_count clock (Compound l r) =
    record { clock = clock - 1; tree = map_tree (gate_of pins leaf_count) l; right = Some (map_tree (gate_of pins leaf_count) r) }

-- each cell with the clock of its level
abbrev pub clocked : ℕ → List ℕ → List CellTrees → List (CellTrees × ℕ)
clocked phases levels cells = map (λ p. (p.0, clock_of phases (greatest levels) p.1)) (zip cells levels)

abbrev pub cell_shapes : ℕ → ℕ → List (CellTrees × ℕ) → List DominoCell
cell_shapes pins leaf_count cells = map (λ p. cell_shape pins leaf_count p.1 p.0) cells

-- The shape of the network's deck with these cells, levels and ends: beside the cells it is that of the whole trees, so it has the
-- complements that some tree or a plus literal names.
abbrev pub network_shape : NetworkData → ℕ → List CellTrees → List ℕ → List SinkEnd → Shape
network_shape network phases cells levels ends =
    record (deck_shape WithPrecharge phases (pins_of network) (outs_of network) (starts_of network) (whole_cells phases levels cells)
    (complements_of network (whole_cells phases levels cells) ends) ends) {
      cells = cell_shapes (length (pins_of network)) (length (pins_of network) + length (starts_of network)) (clocked phases levels cells);
    }

-- the circuit of a network: behind its ports the cards of that shape, by the names of its nets
abbrev pub deck_circuit : NetworkData → ℕ → List CellTrees → List ℕ → List Bool → List SinkEnd → CircuitData
deck_circuit network phases cells levels signs ends =
    named_circuit (new_circuit (escaped network.name) (phases_of_sinks network signs) phases (pins_of network) (outs_of network))
    (deck_name (pins_of network) (outs_of network)) (network_shape network phases cells levels ends)

-- the circuit is a domino deck of the network, each of whose trees is within the width and the height, on so many clocks
pub record IsDominoDeck (network : NetworkData) (w h phases : ℕ) (circuit : CircuitData) : Type 0 where
  pub cells : List CellTrees
  pub levels : List ℕ
  pub signs : List Bool
  pub ends : List SinkEnd
  pub some_clock : 1 ≤ phases
  pub few_clocks : phases ≤ 4
  pub within : All (AreWithin w h) cells
  pub levels_are : AreLevels (leaf_count network) (map whole_tree cells) levels
  pub reads_below : ReadsBelow (leaf_count network) (whole_cells phases levels cells)
  -- one sign and one end for each sink
  pub one_sign : length signs ≡ length (sink_signals network)
  pub signs_are : AllZip HasSign signs ends
  pub ends_are : All (IsEndIn (leaf_count network) (length cells)) ends
  pub circuit_is : circuit ≡ deck_circuit network phases cells levels signs ends

-- a circuit of the network: of the forest of any signs, and any plan of it within the bounds, with its cells in the order of their roots
pub record IsPlannedDeck (network : NetworkData) (w h phases : ℕ) (circuit : CircuitData) : Type 0 where
  pub gates : GatesData
  pub signs : List Bool
  pub forest : ForestData
  pub kept : List Bool
  pub split : List Bool
  pub cells : List CellTrees
  pub levels : List ℕ
  pub are_gates : AreGatesOf network gates
  pub is_forest : IsForestOf gates signs forest
  pub is_plan : IsPlan compound_costs forest w h kept split cells
  pub levels_are : AreLevels (leaf_count network) (map whole_tree cells) levels
  pub circuit_is : circuit ≡ deck_circuit network phases cells levels signs (map (end_at_cell kept) forest.ends)

-- the circuit that synthesis gives of the network: of the chosen signs and the chosen plan
pub record IsChosenDeck (network : NetworkData) (w h phases : ℕ) (circuit : CircuitData) : Type 0 where
  pub gates : GatesData
  pub signs : List Bool
  pub forest : ForestData
  pub kept : List Bool
  pub split : List Bool
  pub cells : List CellTrees
  pub levels : List ℕ
  pub are_gates : AreGatesOf network gates
  pub are_chosen : AreChosen gates signs
  pub is_forest : IsForestOf gates signs forest
  pub is_chosen_plan : IsChosenPlan compound_costs forest w h kept split cells
  pub levels_are : AreLevels (leaf_count network) (map whole_tree cells) levels
  pub circuit_is : circuit ≡ deck_circuit network phases cells levels signs (map (end_at_cell kept) forest.ends)

-- which is one of these
abbrev pub planned : {network : NetworkData} {w h phases : ℕ} {circuit : CircuitData}
    → IsChosenDeck network w h phases circuit → IsPlannedDeck network w h phases circuit
planned is = record {
  gates = is.gates;
  signs = is.signs;
  forest = is.forest;
  kept = is.kept;
  split = is.split;
  cells = is.cells;
  levels = is.levels;
  are_gates = is.are_gates;
  is_forest = is.is_forest;
  is_plan = is.is_chosen_plan.plan;
  levels_are = is.levels_are;
  circuit_is = is.circuit_is;
}
