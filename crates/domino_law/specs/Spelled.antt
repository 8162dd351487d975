-- The cards of a loose domino deck, in order (SPICE M cards).
use Rattle.domino_cell.specs.StyledCells.{behind_precharge, pull_down_cards}
use Rattle.std.specs.Prelude.{Bool, List, None, Option, Some, [], false, map, true, ℕ, ◌++◌, ◌+◌, ◌<◌, ◌∷◌, ◌≡◌, ◌≤◌}
use Rattle.dom_base.specs.declared.kind.Kind.TheVariants.{N as nch, P as pch}
use Rattle.deck.specs.CircuitData.{CircuitData}
use Rattle.deck.specs.Nets.{net_number}
use Rattle.deck.specs.declared.device.Device.{Device}
use Rattle.deck.specs.NamedDevices.{NamedDevice, device_of, map_device, with_devices}
use Rattle.sp_network.specs.Tree.{Tree, dual, inner_count, map_tree}
use Rattle.domino_cell.specs.Cell.{CellNets, inverter as inverter_cards}
use Rattle.domino_cell.specs.Stage.{Inside, Spot, Top}
use Rattle.domino_cell.specs.Spelling.{spell}
use Rattle.switch_model.specs.LinksData.{LinksData}
use Rattle.domino_law.specs.LooseDeck.{IsLooseDeck, IsNet, IsSourceNet}
use Rattle.domino_law.specs.Nets.{At, CellSide, Clock, Complement, Dynamic, Gate, Lm, Lmb, Ls, Lsb, Master, Net, Next, Output, Part, Rs, Rsb, DeckSignal, Sink, Slave, Vdd, Vss, Right, gate_net, left_side, own, right_side}
use Rattle.domino_law.specs.Shape.{DominoCell, DynamicStage, IsShape, Latch, Shape, dynamic_nets, gate_tree, left_stage, side_of}
use Rattle.domino_cell.specs.declared.style.Style.{Style}

-- the nets of a side of a cell
abbrev pub net_cell : CellSide → DynamicStage → CellNets Net
net_cell k c = record {
  vdd = Vdd;
  vss = Vss;
  clock = Clock c.clock;
  dynamic = At (Dynamic k) Top;
  output = At (Output k.cell) Top;
  foot = At (Dynamic k) (Inside 0 0);
  inner = λ j. At (Dynamic k) (Inside 0 (1 + j));
}

-- a side of a cell of a style
abbrev pub side_cards : Style → CellSide → DynamicStage → List (NamedDevice Net)
side_cards style k c =
    (record { kind = pch; drain = At (Dynamic k) Top; gate = Clock c.clock; source = Vdd }
    ∷ behind_precharge style (net_cell k c) (inner_count (map_tree gate_net c.tree)))
    ++ pull_down_cards (net_cell k c) (map_tree gate_net c.tree)

-- a static gate of nets: the dual tree to the high supply, then the tree to the low one
abbrev pub static_cards : Part → Tree Net → List (NamedDevice Net)
static_cards part t =
    spell pch (λ j. At part (Inside 0 j)) (dual t) (At part Top) Vdd 0 ++ spell nch (λ j. At part (Inside 1 j)) t (At part Top) Vss 0

-- a cell: its left side, its right one if it is compound, and the static gate of its dynamic nets
abbrev pub right_cards : Style → ℕ → Option DynamicStage → List (NamedDevice Net)
right_cards style k None = []
right_cards style k (Some c) = side_cards style (right_side k) c

abbrev pub one_cell : Style → ℕ → DominoCell → List (NamedDevice Net)
one_cell style k c =
    side_cards style (left_side k) (left_stage c)
    ++ (right_cards style k (side_of c Right) ++ static_cards (Output k) (dynamic_nets k c.right))

-- the cells from number k on
abbrev pub cell_cards : Style → ℕ → List DominoCell → List (NamedDevice Net)
cell_cards style k [] = []
cell_cards style k (c ∷ cs) = one_cell style k c ++ cell_cards style (k + 1) cs

-- the inverters of complements
abbrev pub complement_cards : List DeckSignal → List (NamedDevice Net)
complement_cards [] = []
complement_cards (l ∷ ls) = inverter_cards Vdd Vss (own l) (At (Complement l) Top) ++ complement_cards ls

-- the reset device of latch j, by its start value, and the nine devices of the latch
abbrev pub reset_card : ℕ → Bool → NamedDevice Net
reset_card j false = record { kind = nch; drain = At (Slave j) Top; gate = Rs; source = Vss }
reset_card j true = record { kind = pch; drain = At (Slave j) Top; gate = Rsb; source = Vdd }

abbrev pub one_latch : ℕ → Bool → List (NamedDevice Net)
one_latch j init =
    record { kind = pch; drain = At (Master j) Top; gate = Lmb; source = At (Master j) (Inside 0 0) }
    ∷ record { kind = pch; drain = At (Master j) (Inside 0 0); gate = At (Next j) Top; source = Vdd }
    ∷ record { kind = nch; drain = At (Master j) Top; gate = Lm; source = At (Master j) (Inside 1 0) }
    ∷ record { kind = nch; drain = At (Master j) (Inside 1 0); gate = At (Next j) Top; source = Vss }
    ∷ record { kind = pch; drain = At (Slave j) Top; gate = Lsb; source = At (Slave j) (Inside 0 0) }
    ∷ record { kind = pch; drain = At (Slave j) (Inside 0 0); gate = At (Master j) Top; source = Vdd }
    ∷ record { kind = nch; drain = At (Slave j) Top; gate = Ls; source = At (Slave j) (Inside 1 0) }
    ∷ record { kind = nch; drain = At (Slave j) (Inside 1 0); gate = At (Master j) Top; source = Vss }
    ∷ reset_card j init
    ∷ []

-- the latches from number j on
abbrev pub latch_cards : ℕ → List Latch → List (NamedDevice Net)
latch_cards j [] = []
latch_cards j (b ∷ bs) = one_latch j b.init ++ latch_cards (j + 1) bs

-- the static gates of output ports, and those of latch inputs
abbrev pub output_cards : Shape → ℕ → List Gate → List (NamedDevice Net)
output_cards s i [] = []
output_cards s i (g ∷ gs) = static_cards (Sink i) (gate_tree s g) ++ output_cards s (i + 1) gs

abbrev pub next_cards : Shape → ℕ → List Latch → List (NamedDevice Net)
next_cards s j [] = []
next_cards s j (b ∷ bs) = static_cards (Next j) (gate_tree s b.next) ++ next_cards s (j + 1) bs

-- the cells, the complements, the latches and the sinks
abbrev pub shape_cards : Shape → List (NamedDevice Net)
shape_cards s =
    cell_cards s.style 0 s.cells
    ++ (complement_cards s.complements ++ (latch_cards 0 s.latches ++ (output_cards s 0 s.outputs ++ next_cards s 0 s.latches)))

-- their devices, where `net` numbers the nets
abbrev pub deck_devices : (Net → ℕ) → Shape → List Device
deck_devices net s = map device_of (map (map_device net) (shape_cards s))

-- The circuit's devices are, in order, those of the deck. Its sources are numbered first, and no two nets of the deck
-- have one number.
pub record IsSpelledDeck (links : LinksData) (net : Net → ℕ) (s : Shape) : Type 0 where
  pub shape : IsShape s
  pub apart : (a b : Net) → IsNet s a → IsNet s b → net a ≡ net b → a ≡ b
  pub sources : (a : Net) → IsSourceNet s a → net a < links.sources
  pub others : (part : Part) (spot : Spot) → IsNet s (At part spot)
      → (links.sources ≤ net (At part spot)) × (net (At part spot) < links.nets)
  pub devices_are : links.devices ≡ deck_devices net s

-- such a circuit is a loose domino deck
abbrev pub SpelledIsLoose : Type 0
SpelledIsLoose = (links : LinksData) (net : Net → ℕ) (s : Shape) → IsSpelledDeck links net s → IsLooseDeck links net s

-- the circuit of a deck whose nets have these names, behind ports
abbrev pub named_circuit : CircuitData → (Net → List ℕ) → Shape → CircuitData
named_circuit ports name s = with_devices ports (map (map_device name) (shape_cards s))

-- it has the deck's devices, where each net is numbered by the place of its name
abbrev pub NamedIsSpelled : Type 0
NamedIsSpelled =
    (ports : CircuitData) (name : Net → List ℕ) (s : Shape) → ports.devices ≡ []
    → (named_circuit ports name s).devices ≡ deck_devices (λ a. net_number (named_circuit ports name s).nets (name a)) s
