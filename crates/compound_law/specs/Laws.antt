-- The headline for decks with compound cells, and the laws of such decks (Rabaey, Digital Integrated Circuits: compound domino; Puri,
-- Bjorksten, Rosser 1996: phases; Zhao, Sapatnekar 1998: covers).
use Rattle.std.specs.Prelude.{All, List, length, map, replicate, take, true, ℕ, ◌++◌, ◌<◌, ◌≡◌, ◌≤◌}
use Rattle.blif_ast.specs.BlifFileData.{BlifFileData}
use Rattle.blif_ast.specs.Reading.{IsFileOf}
use Rattle.deck.specs.CircuitData.{CircuitData}
use Rattle.deck.specs.DeckText.{HasNetNames, IsDeckOf}
use Rattle.deck.specs.Nets.{IsCircuit}
use Rattle.deck.specs.PortLayout.{source_count}
use Rattle.deck.specs.Ports.{leading_ports}
use Rattle.deck.specs.declared.device.Device.{Device}
use Rattle.spice_text.specs.Text.{IsWritten}
use Rattle.net_flatten.specs.Flattening.{IsNetworkOf}
use Rattle.network.specs.NetworkData.{NetworkData}
use Rattle.network.specs.Networks.{IsNetwork}
use Rattle.gate_decompose.specs.Needed.{HasSize}
use Rattle.phase_assign.specs.Signs.{AreSettled}
use Rattle.switch_model.specs.LinksData.{is_first, links_of}
use Rattle.port_runs.specs.Environment.{World}
use Rattle.port_runs.specs.declared.clocking.Clocking.TheVariants.{Together}
use Rattle.port_runs.specs.Periods.{vdd_port, vss_port}
use Rattle.compound_plan.specs.Plans.{IsLeastPlan, compound_costs, cost}
use Rattle.domino_law.specs.DominoDeck.{IsLooseDominoDeck}
use Rattle.domino_law.specs.Joins.{IsContest}
use Rattle.domino_cell.specs.declared.style.Style.TheVariants.{Precharge as WithPrecharge}
use Rattle.domino_law.specs.Spelled.{cell_cards}
use Rattle.deck_form.specs.ChosenDecks.{end_at_cell}
use Rattle.deck_form.specs.DominoDecks.{outs_of, pins_of}
use Rattle.deck_law.specs.Headline.{IsRightInEveryRun, input_ports, output_ports, roles_of}
use Rattle.deck_law.specs.HonestDecks.{IsHonestDeck}
use Rattle.deck_law.specs.NetNames.{numbering}
use Rattle.deck_law.specs.OwnRuns.{RunsAsNetwork}
use Rattle.compound_law.specs.CompoundDecks.{IsChosenDeck, IsDominoDeck, IsPlannedDeck, network_shape}

-- The bytes of a deck, for the bytes of a BLIF text: they read back as a footed domino circuit of the text's network, of simple and
-- compound cells within the width and the height, on so many clocks, which is right in every run and joins the supplies never.
pub record IsRightDeck (blif : List ℕ) (w h phases : ℕ) (deck : List ℕ) : Type 0 where
  pub file : BlifFileData
  pub is_file : IsFileOf blif file
  pub network : NetworkData
  pub is_network : IsNetworkOf file network
  -- the deck's text stands for this circuit and no other
  pub circuit : CircuitData
  pub reads_back : IsDeckOf deck circuit
  pub no_other : (other : CircuitData) → IsDeckOf deck other → other ≡ circuit
  -- it is a domino deck of the network
  pub is_deck : IsDominoDeck network w h phases circuit
  -- its ports are the supplies, the clocks, the clocks and resets of latches, the inputs and the outputs, in order
  pub ports : take circuit.ports circuit.nets ≡ leading_ports phases ++ input_ports network ++ output_ports network
  pub right : IsRightInEveryRun Together network circuit (roles_of network phases)
  -- its legal runs are honest from the rest of reset on, each event and each move keeps that, its latches start as the network's, and
  -- an honest reading has the network's outputs and next state
  pub honest : IsHonestDeck Together WithPrecharge network circuit (roles_of network phases)
  -- there is no contest at all, at any values of the nets
  pub never_joins : (w : World) (p : List Device)
      → IsContest circuit.devices (is_first (source_count (roles_of network phases))) w.values vdd_port vss_port p → ⊥

-- what the deck of the chosen signs and the chosen plan has of the least
pub record IsLeastDeck {network : NetworkData} {w h phases : ℕ} {circuit : CircuitData}
    (is : IsChosenDeck network w h phases circuit) : Type 0 where
  -- no change of one sign lowers the number of needed pairs, which is no greater than that of all plus
  pub settled : AreSettled is.gates is.signs
  pub no_worse : (m n : ℕ) → HasSize is.gates is.signs m → HasSize is.gates (replicate (length is.gates.sinks) true) n → m ≤ n
  -- no plan costs less, with simple or with compound roots
  pub least : IsLeastPlan compound_costs is.forest w h is.kept is.split is.cells
  -- the cells have exactly as many devices
  pub devices : length (cell_cards WithPrecharge 0
      (network_shape network phases is.cells is.levels (map (end_at_cell is.kept) is.forest.ends)).cells)
      ≡ cost compound_costs is.cells

-- the names are of bytes
abbrev pub AreByteNames : List (List ℕ) → Type 0
AreByteNames names = All (λ name. All (λ b. b < 256) name) names

-- the own run of a planned deck of a network is the network's run
abbrev pub PlannedRunsAsNetwork : Type 0
PlannedRunsAsNetwork =
    (network : NetworkData) (w h phases : ℕ) (circuit : CircuitData) (is : IsPlannedDeck network w h phases circuit) → IsNetwork network
    → RunsAsNetwork network (network_shape network phases is.cells is.levels (map (end_at_cell is.kept) is.forest.ends))

-- a planned deck is a loose domino deck by numbers, where each net has the number of its name
abbrev pub PlannedDecksAreLoose : Type 0
PlannedDecksAreLoose =
    (network : NetworkData) (w h phases : ℕ) (circuit : CircuitData) (is : IsPlannedDeck network w h phases circuit) → IsNetwork network
    → AreByteNames network.names → 1 ≤ phases → phases ≤ 4 → IsCircuit circuit.ports circuit.nets circuit.devices
    → IsLooseDominoDeck (record { clocks = phases; pins = length (pins_of network); outs = length (outs_of network) })
    (links_of circuit (record { clocks = phases; pins = length (pins_of network); outs = length (outs_of network) }))
    (numbering circuit.nets (pins_of network) (outs_of network))
    (network_shape network phases is.cells is.levels (map (end_at_cell is.kept) is.forest.ends))

-- and honest, whatever it is written as
abbrev pub PlannedCircuitsAreHonest : Type 0
PlannedCircuitsAreHonest =
    (network : NetworkData) (w h phases : ℕ) (circuit : CircuitData) → IsPlannedDeck network w h phases circuit → IsNetwork network
    → AreByteNames network.names → 1 ≤ phases → phases ≤ 4 → IsCircuit circuit.ports circuit.nets circuit.devices
    → IsHonestDeck Together WithPrecharge network circuit (roles_of network phases)

-- a text that stands for the circuit of any signs and any plan of the network within the bounds is a right deck
abbrev pub PlannedDecksAreRight : Type 0
PlannedDecksAreRight =
    (blif deck : List ℕ) (w h phases : ℕ) (file : BlifFileData) (network : NetworkData) (circuit : CircuitData)
    → IsFileOf blif file → IsNetworkOf file network → AreByteNames network.names → 1 ≤ phases → phases ≤ 4
    → IsPlannedDeck network w h phases circuit → IsDeckOf deck circuit
    → IsRightDeck blif w h phases deck

-- and so is the written form of that circuit, where it is a circuit with names of nets
abbrev pub PlannedTextsAreRight : Type 0
PlannedTextsAreRight =
    (blif deck : List ℕ) (w h phases : ℕ) (file : BlifFileData) (network : NetworkData) (circuit : CircuitData)
    → IsFileOf blif file → IsNetworkOf file network → AreByteNames network.names → 1 ≤ phases → phases ≤ 4
    → IsPlannedDeck network w h phases circuit
    → IsCircuit circuit.ports circuit.nets circuit.devices → HasNetNames circuit → IsWritten circuit deck
    → IsRightDeck blif w h phases deck

-- a network has a deck of the chosen signs and the chosen plan, within any bounds of at least 2
abbrev pub ChosenDecksAreThere : Type 0
ChosenDecksAreThere =
    (network : NetworkData) (w h phases : ℕ) → IsNetwork network → 2 ≤ w → 2 ≤ h
    → (circuit : CircuitData) × IsChosenDeck network w h phases circuit

-- and one at most
abbrev pub ChosenDecksAreOne : Type 0
ChosenDecksAreOne =
    (network : NetworkData) (w h phases : ℕ) (a b : CircuitData) → IsNetwork network
    → IsChosenDeck network w h phases a → IsChosenDeck network w h phases b → a ≡ b

-- each deck of the chosen signs and the chosen plan has the least cost over plans with compound roots
abbrev pub ChosenDecksAreLeast : Type 0
ChosenDecksAreLeast =
    (network : NetworkData) (w h phases : ℕ) (circuit : CircuitData) → IsNetwork network
    → (is : IsChosenDeck network w h phases circuit) → IsLeastDeck is

-- so the text of synthesis, of the chosen signs and the chosen plan, is a right deck of least cost
abbrev pub ChosenTextsAreRight : Type 0
ChosenTextsAreRight =
    (blif deck : List ℕ) (w h phases : ℕ) (file : BlifFileData) (network : NetworkData) (circuit : CircuitData)
    → IsFileOf blif file → IsNetworkOf file network → AreByteNames network.names → 1 ≤ phases → phases ≤ 4
    → (is : IsChosenDeck network w h phases circuit)
    → IsCircuit circuit.ports circuit.nets circuit.devices → HasNetNames circuit → IsWritten circuit deck
    → IsRightDeck blif w h phases deck × IsLeastDeck is
