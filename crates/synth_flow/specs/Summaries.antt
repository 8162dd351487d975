-- The figures of the circuit that synthesis gives of a network.
use Rattle.std.specs.Prelude.{ℕ, ◌≡◌, ◌==◌, ◌&&◌, Bool, true, false, cond, not, List, length, map, filter}
use Rattle.std.specs.List.{count_by, list_any, range_with_len}
use Rattle.deck.specs.CircuitData.{CircuitData}
use Rattle.clock_phase.specs.Levels.{greatest}
use Rattle.network.specs.NetworkData.{NetworkData}
use Rattle.style_costs.specs.Styles.{cost_in}
use Rattle.deck_form.specs.ChosenDecks.{IsChosenDeck}
use Rattle.deck_form.specs.DeckNets.{CellPlan}
use Rattle.deck_form.specs.AskedOptions.{deck_options}
use Rattle.deck_form.specs.DeckOptions.{DeckOptions}
use Rattle.deck_form.specs.DominoDecks.{cells_of}
use Rattle.synth_flow.specs.SummaryData.{SummaryData}
use Rattle.deck_form.specs.declared.options.SynthOptions.{SynthOptions}

-- a pair is the one of this node and sign
abbrev pub is_node_with_sign : ℕ → Bool → ℕ × Bool → Bool
is_node_with_sign node sign pair = (pair.0 == node) && cond sign pair.1 (not pair.1)

-- the node is needed with this sign
abbrev pub needs : List (ℕ × Bool) → Bool → ℕ → Bool
needs pairs sign node = list_any (is_node_with_sign node sign) pairs

-- the nodes, of so many, that are needed in both signs
abbrev pub both_nodes : List (ℕ × Bool) → ℕ → List ℕ
both_nodes pairs nodes = filter (λ node. needs pairs true node && needs pairs false node) (range_with_len 0 nodes)

-- how many cells have each of the clocks, from 1 on
abbrev pub clock_counts : ℕ → List CellPlan → List ℕ
clock_counts phases cells = map (λ clock. count_by (λ (c : CellPlan). c.clock == clock) cells) (range_with_len 1 phases)

-- The figures of a circuit of the network, by the parts that it is made of: the needed pairs, the nodes that are needed in both
-- signs, the sinks with the sign minus, the cells, their greatest level, the cost of the plan in its style, and all
-- devices.
abbrev pub figures : {network : NetworkData} {options : DeckOptions} {circuit : CircuitData}
    → IsChosenDeck network options circuit → SummaryData
figures {network} {options} {circuit} is = record {
  inputs = network.inputs;
  outputs = length network.outputs;
  latches = length network.latches;
  pairs = length is.forest.pairs;
  both = length (both_nodes is.forest.origin (length is.gates.nodes));
  minus = count_by not is.signs;
  cells = length is.trees;
  levels = greatest is.levels;
  cost = cost_in options.style is.trees;
  devices = length circuit.devices;
  clocks = clock_counts options.phases (cells_of options.phases is.levels is.trees);
}

-- the figures of the circuit that synthesis gives of the network
abbrev pub IsSummaryOf : NetworkData → SynthOptions → SummaryData → Type 0
IsSummaryOf network options summary =
    (circuit : CircuitData) × (is : IsChosenDeck network (deck_options options) circuit) × (summary ≡ figures is)
