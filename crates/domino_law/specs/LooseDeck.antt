-- Loose domino decks by their stages: each device is of one stage, and each stage stands alone.
use Rattle.std.specs.Prelude.{Bool, Contains, List, map, true, ℕ, ◌+◌, ◌<◌, ◌≡◌}
use Rattle.deck.specs.declared.device.Device.{Device}
use Rattle.deck.specs.NamedDevices.{device_of}
use Rattle.sp_network.specs.Tree.{inner_count}
use Rattle.domino_cell.specs.Stage.{Branch, Inside, Spot, Top}
use Rattle.switch_model.specs.LinksData.{LinksData, is_first}
use Rattle.domino_cell.specs.Tapped.{IsTapped, Tap, tapped}
use Rattle.domino_law.specs.Branches.{HasBranches}
use Rattle.domino_law.specs.Nets.{At, Clock, Complement, Dynamic, Gate, Master, Net, Next, Output, Part, Pin, Sink, Slave}
use Rattle.domino_law.specs.Shape.{DominoCell, DynamicStage, HasComplement, IsCellAt, IsLatchAt, IsOutputAt, IsShape, IsSideAt, Latch, Shape, dynamic_nets, gate_tree}

-- the part is one of the deck's
abbrev pub IsPart : Shape → Part → Type 0
IsPart s (Dynamic k) = (c : DynamicStage) × IsSideAt s k c
IsPart s (Output k) = (c : DominoCell) × IsCellAt s k c
IsPart s (Complement l) = HasComplement s l
IsPart s (Master j) = (b : Latch) × IsLatchAt s j b
IsPart s (Slave j) = (b : Latch) × IsLatchAt s j b
IsPart s (Next j) = (b : Latch) × IsLatchAt s j b
IsPart s (Sink i) = (g : Gate) × IsOutputAt s i g

-- the net is a source of the deck: a port that is no output
abbrev pub IsSourceNet : Shape → Net → Type 0
IsSourceNet s (Clock i) = i < s.clocks
IsSourceNet s (Pin p) = p < s.pins
IsSourceNet s (At part spot) = ⊥
IsSourceNet s _ = Unit {0}

-- the spot is one of a part of the deck: its top, the foot and the inner nets of a cell's tree, the inner nets of a static gate's tree,
-- and one net in each half of a master and of a slave
abbrev pub IsSpotOf : Shape → Part → Spot → Type 0
IsSpotOf s part Top = IsPart s part
IsSpotOf s (Dynamic k) (Inside i j) = (c : DynamicStage) × IsSideAt s k c × (i ≡ 0) × (j < 1 + inner_count c.tree)
IsSpotOf s (Output k) (Inside i j) = (c : DominoCell) × IsCellAt s k c × (i ≡ 1) × (j < inner_count (dynamic_nets k c.right))
IsSpotOf s (Next k) (Inside i j) = (b : Latch) × IsLatchAt s k b × (i ≡ 1) × (j < inner_count (gate_tree s b.next))
IsSpotOf s (Sink k) (Inside i j) = (g : Gate) × IsOutputAt s k g × (i ≡ 1) × (j < inner_count (gate_tree s g))
IsSpotOf s (Master k) (Inside i j) = ((b : Latch) × IsLatchAt s k b) × (i < 2) × (j ≡ 0)
IsSpotOf s (Slave k) (Inside i j) = ((b : Latch) × IsLatchAt s k b) × (i < 2) × (j ≡ 0)
IsSpotOf s _ (Inside i j) = ⊥

-- the net is one of the deck's
abbrev pub IsNet : Shape → Net → Type 0
IsNet s (At part spot) = IsSpotOf s part spot
IsNet s a = IsSourceNet s a

-- The devices are those of a loose domino deck of this shape, whose nets are numbered by `net`.
pub record HoldsDeck (devices : List Device) (is_source : ℕ → Bool) (net : Net → ℕ) (s : Shape) : Type 0 where
  pub shape : IsShape s
  -- different nets have different numbers
  pub apart : (a b : Net) → IsNet s a → IsNet s b → net a ≡ net b → a ≡ b
  pub sources : (a : Net) → IsSourceNet s a → is_source (net a) ≡ true
  -- each part is a stage of the circuit
  pub stages : (part : Part) (bs : List Branch) (taps : List Tap) → HasBranches s net part bs taps
      → IsTapped devices is_source (λ a. net (At part a)) bs taps
  -- and each device is one of a part's
  pub whole : (d : Device) → Contains devices d
      → (part : Part) × (bs : List Branch) × (taps : List Tap) × HasBranches s net part bs taps
      × Contains (map device_of (tapped (λ a. net (At part a)) bs taps)) d

-- a circuit without names, whose first nets are the sources, is a loose domino deck; the nets of its parts are among its nets
pub record IsLooseDeck (links : LinksData) (net : Net → ℕ) (s : Shape) : Type 0 where
  pub deck : HoldsDeck links.devices (is_first links.sources) net s
  pub in_range : (part : Part) (a : Spot) → IsSpotOf s part a → net (At part a) < links.nets
