-- Domino decks of a network: what a circuit of synthesis looks like within its bounds and clocks.
use Rattle.domino_cell.specs.declared.style.Style.{Style}
use Rattle.std.specs.Prelude.{ℕ, ◌≤◌, ◌≡◌, Bool, true, false, List, [], ◌++◌, length, map, filter, slice_index_or, All, codes}
use Rattle.std.specs.List.{AllZip, range_with_len, zip}
use Rattle.deck.specs.declared.phase.Phase.{Phase}
use Rattle.deck.specs.CircuitData.{CircuitData}
use Rattle.deck.specs.Escapes.{escaped}
use Rattle.deck.specs.Pushes.{new_circuit}
use Rattle.deck.specs.NamedDevices.{with_devices}
use Rattle.sp_network.specs.Tree.{Tree}
use Rattle.deck_form.specs.DeckOptions.{DeckOptions}
use Rattle.deck_form.specs.DeckNets.{CellPlan, SinkEnd, Fixed, OfLeaf, OfDynamic, OfOutput, named_devices, sink_nets}
use Rattle.clock_phase.specs.Levels.{AreLevels, clock_of, greatest}
use Rattle.deck_form.specs.NamedDecks.{IsEndIn, ReadsBelow, names_complement}
use Rattle.network.specs.NetworkData.{NetworkData}
use Rattle.gate_decompose.specs.Sinks.{leaf_count, sink_signals}
use Rattle.tree_map.specs.Bounds.{IsWithin}

-- the name of a signal
abbrev pub signal_name : NetworkData → ℕ → List ℕ
signal_name network signal = slice_index_or network.names signal []

-- the ports of the inputs and of the outputs, by escaped names
abbrev pub pins_of : NetworkData → List (List ℕ)
pins_of network = map (λ signal. codes "i_" ++ escaped (signal_name network signal)) (range_with_len 0 network.inputs)

abbrev pub outs_of : NetworkData → List (List ℕ)
outs_of network = map (λ signal. codes "o_" ++ escaped (signal_name network signal)) network.outputs

abbrev pub starts_of : NetworkData → List Bool
starts_of network = map (λ l. l.init) network.latches

-- each tree with the clock of its level
abbrev pub cells_of : ℕ → List ℕ → List (Tree ℕ) → List CellPlan
cells_of phases levels trees = map (λ p. record { tree = p.0; clock = clock_of phases (greatest levels) p.1 }) (zip trees levels)

-- the phases: the net and the sign of each sink
abbrev pub phases_of_sinks : NetworkData → List Bool → List Phase
phases_of_sinks network signs = map (λ p. record { net = p.0; plus = p.1 }) (zip (sink_nets (outs_of network) (starts_of network)) signs)

-- the complements that are named, in order
abbrev pub complements_of : NetworkData → List CellPlan → List SinkEnd → List ℕ
complements_of network cells ends = filter (names_complement cells ends) (range_with_len 0 (leaf_count network))

-- the circuit of a network with these cells, whatever their clocks are, signs and ends, where an end names its cell
abbrev pub deck_circuit : Style → NetworkData → ℕ → List CellPlan → List Bool → List SinkEnd → CircuitData
deck_circuit style network phases cells signs ends =
    with_devices (new_circuit (escaped network.name) (phases_of_sinks network signs) phases (pins_of network) (outs_of network))
    (named_devices style (pins_of network) (outs_of network) (starts_of network) cells
    (complements_of network cells ends) ends)

-- a sink whose sign is plus isn't taken from the output of a cell, and one whose sign is minus not from a dynamic net
abbrev pub HasSign : Bool → SinkEnd → Type 0
HasSign sign (Fixed b) = Unit {0}
HasSign sign (OfLeaf leaf plus) = Unit {0}
HasSign sign (OfDynamic k) = sign ≡ true
HasSign sign (OfOutput k) = sign ≡ false

-- the circuit is a domino deck of the network with these options
pub record IsDominoDeck (network : NetworkData) (options : DeckOptions) (circuit : CircuitData) : Type 0 where
  pub trees : List (Tree ℕ)
  pub levels : List ℕ
  pub signs : List Bool
  pub ends : List SinkEnd
  pub some_clock : 1 ≤ options.phases
  pub few_clocks : options.phases ≤ 4
  pub within : All (IsWithin options.width options.height) trees
  pub levels_are : AreLevels (leaf_count network) trees levels
  pub reads_below : ReadsBelow (leaf_count network) (cells_of options.phases levels trees)
  -- one sign and one end for each sink
  pub one_sign : length signs ≡ length (sink_signals network)
  pub signs_are : AllZip HasSign signs ends
  pub ends_are : All (IsEndIn (leaf_count network) (length trees)) ends
  pub circuit_is : circuit ≡ deck_circuit options.style network options.phases (cells_of options.phases levels trees) signs ends
