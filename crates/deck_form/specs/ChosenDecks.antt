-- The circuit of a network: of any signs and any plan, of signs as wanted and the chosen plan, and that of synthesis.
use Rattle.std.specs.Prelude.{ℕ, ◌≡◌, Bool, List, map}
use Rattle.deck.specs.CircuitData.{CircuitData}
use Rattle.sp_network.specs.Tree.{Tree}
use Rattle.dual_rail.specs.declared.forest.End.{End}
use Rattle.dual_rail.specs.declared.forest.End.TheVariants.{Const, Literal, FromDynamic, FromOutput}
use Rattle.deck_form.specs.DeckNets.{SinkEnd, Fixed, OfLeaf, OfDynamic, OfOutput}
use Rattle.deck_form.specs.DeckOptions.{DeckOptions}
use Rattle.deck_form.specs.DominoDecks.{cells_of, deck_circuit}
use Rattle.dual_rail.specs.ForestData.{ForestData}
use Rattle.dual_rail.specs.Forests.{IsForestOf}
use Rattle.gate_decompose.specs.GateNodes.{AreGatesOf}
use Rattle.gate_decompose.specs.GatesData.{GatesData}
use Rattle.tree_map.specs.LeastPlans.{IsChosenPlan}
use Rattle.clock_phase.specs.Levels.{AreLevels}
use Rattle.network.specs.NetworkData.{NetworkData}
use Rattle.gate_decompose.specs.Sinks.{leaf_count}
use Rattle.tree_map.specs.Plans.{IsPlan, cell_of}
use Rattle.phase_assign.specs.Signs.{AreChosen}

-- an end that names a pair, as one that names the cell of this pair
abbrev pub end_at_cell : List Bool → End → SinkEnd
end_at_cell kept (Const b) = Fixed b
end_at_cell kept (Literal rail) = OfLeaf rail.leaf rail.plus
end_at_cell kept (FromDynamic place) = OfDynamic (cell_of kept place)
end_at_cell kept (FromOutput place) = OfOutput (cell_of kept place)

-- a circuit of the network: of the forest of any signs and any plan of it within the bounds
pub record IsPlannedDeck (network : NetworkData) (options : DeckOptions) (circuit : CircuitData) : Type 0 where
  pub gates : GatesData
  pub signs : List Bool
  pub forest : ForestData
  pub kept : List Bool
  pub trees : List (Tree ℕ)
  pub levels : List ℕ
  pub are_gates : AreGatesOf network gates
  pub is_forest : IsForestOf gates signs forest
  pub is_plan : IsPlan forest options.width options.height kept trees
  pub levels_are : AreLevels (leaf_count network) trees levels
  pub circuit_is : circuit ≡ deck_circuit options.style network options.phases (cells_of options.phases levels trees) signs (map (end_at_cell kept) forest.ends)

-- a circuit of the network of signs that are as wanted and the chosen plan
pub record IsDeckOfSigns (AreSigns : GatesData → List Bool → Type 0) (network : NetworkData) (options : DeckOptions) (circuit : CircuitData) : Type 0 where
  pub gates : GatesData
  pub signs : List Bool
  pub forest : ForestData
  pub kept : List Bool
  pub trees : List (Tree ℕ)
  pub levels : List ℕ
  pub are_gates : AreGatesOf network gates
  pub are_chosen : AreSigns gates signs
  pub is_forest : IsForestOf gates signs forest
  pub is_chosen_plan : IsChosenPlan forest options.width options.height kept trees
  pub levels_are : AreLevels (leaf_count network) trees levels
  pub circuit_is : circuit ≡ deck_circuit options.style network options.phases (cells_of options.phases levels trees) signs (map (end_at_cell kept) forest.ends)

-- the circuit that synthesis gives of the network: of the chosen signs and the chosen plan
abbrev pub IsChosenDeck : NetworkData → DeckOptions → CircuitData → Type 0
IsChosenDeck network options circuit = IsDeckOfSigns AreChosen network options circuit

-- that of these signs
abbrev pub AreGiven : List Bool → GatesData → List Bool → Type 0
AreGiven given gates signs = signs ≡ given

-- a circuit of signs and the chosen plan is one of any signs and any plan
abbrev pub planned : {AreSigns : GatesData → List Bool → Type 0} {network : NetworkData} {options : DeckOptions} {circuit : CircuitData}
    → IsDeckOfSigns AreSigns network options circuit → IsPlannedDeck network options circuit
planned is = record {
  gates = is.gates;
  signs = is.signs;
  forest = is.forest;
  kept = is.kept;
  trees = is.trees;
  levels = is.levels;
  are_gates = is.are_gates;
  is_forest = is.is_forest;
  is_plan = is.is_chosen_plan.plan;
  levels_are = is.levels_are;
  circuit_is = is.circuit_is;
}

-- and one of signs of which more is known
abbrev pub with_signs : {AreSigns AreOthers : GatesData → List Bool → Type 0} {network : NetworkData} {options : DeckOptions} {circuit : CircuitData}
    → (is : IsDeckOfSigns AreSigns network options circuit) → AreOthers is.gates is.signs → IsDeckOfSigns AreOthers network options circuit
with_signs is are = record {
  gates = is.gates;
  signs = is.signs;
  forest = is.forest;
  kept = is.kept;
  trees = is.trees;
  levels = is.levels;
  are_gates = is.are_gates;
  are_chosen = are;
  is_forest = is.is_forest;
  is_chosen_plan = is.is_chosen_plan;
  levels_are = is.levels_are;
  circuit_is = is.circuit_is;
}
