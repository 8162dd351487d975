-- What the rules of an audit find, numbered as the nets of a deck: its cells in an order in which each reads earlier ones alone, its
-- complements, its latches and its sinks.
use Rattle.std.specs.Prelude.{List, Some, length, slice_get, suc, ℕ, ◌+◌, ◌<◌, ◌≡◌, ◌≤◌}
use Rattle.deck.specs.CircuitData.{CircuitData}
use Rattle.deck.specs.PortLayout.{first_output, source_count}
use Rattle.deck.specs.declared.device.Device.{Device}
use Rattle.deck.specs.declared.role.Roles.{Roles}
use Rattle.sp_network.specs.Tree.{Leaf, Parallel, Series, Tree, inner_count}
use Rattle.domino_cell.specs.Stage.{Inside, Top}
use Rattle.domino_law.specs.Branches.{numbered}
use Rattle.domino_law.specs.LooseDeck.{IsSourceNet}
use Rattle.domino_law.specs.Nets.{At, Clock, Complement, DeckSignal, Dynamic, Gate, Master, Net, Next, Output, Sink, Slave, gate_net, own, left_side}
use Rattle.domino_law.specs.Settings.{port_number}
use Rattle.domino_law.specs.Shape.{DominoCell, HasComplement, IsCellAt, IsLatchAt, IsOutputAt, IsShape, Latch, Shape}
use Rattle.domino_cell.specs.declared.style.Style.TheVariants.{Keeper as WithKeeper}
use Rattle.sp_reduction.specs.Networks.{Link, mids}
use Rattle.deck_audit.specs.AuditedDeck.{IsExchangedDeck}
use Rattle.deck_audit.specs.Rules.{HasFront, HasTree, KeepsRules}
use Rattle.deck_audit.specs.Words.{Group, IsComplement, IsDynamic, IsGroup, IsInverterOutput, StandsAt}

-- the trees have one form, and the gate of each link's device stands at its leaf
abbrev pub Spells : List Device → Tree Link → Tree ℕ → Type 0
Spells ds (Leaf e) (Leaf n) = (d : Device) × StandsAt ds e.number d × (d.gate ≡ n)
Spells ds (Series l r) (Series m n) = Spells ds l m × Spells ds r n
Spells ds (Parallel l r) (Parallel m n) = Spells ds l m × Spells ds r n
Spells ds _ _ = ⊥

-- the numbers of a cell are those of a dynamic net with its output, its tree and its foot
pub record IsCellAs (ds : List Device) (roles : Roles) (net : Net → ℕ) (k : ℕ) (cell : DominoCell) : Type 0 where
  pub front : HasFront ds roles (net (At (Dynamic (left_side k)) Top)) (net (Clock cell.clock)) (net (At (Output k) Top))
  pub tree : Tree Link
  pub has_tree : HasTree ds roles (net (At (Dynamic (left_side k)) Top)) (net (Clock cell.clock)) (net (At (Dynamic (left_side k)) (Inside 0 0))) tree
  pub spells : Spells ds tree (numbered net cell.tree)
  pub inner_are : (j : ℕ) → j < inner_count cell.tree
      → slice_get (mids tree (net (At (Dynamic (left_side k)) Top)) (net (At (Dynamic (left_side k)) (Inside 0 0))) has_tree.between) j ≡ Some (net (At (Dynamic (left_side k)) (Inside 0 (suc j))))

-- the nets of latch j
abbrev pub group_of : (Net → ℕ) → ℕ → Latch → Group
group_of net j b = record {
  master = net (At (Master j) Top);
  master_up = net (At (Master j) (Inside 0 0));
  master_down = net (At (Master j) (Inside 1 0));
  data_net = net (At (Next j) Top);
  output = net (At (Slave j) Top);
  output_up = net (At (Slave j) (Inside 0 0));
  output_down = net (At (Slave j) (Inside 1 0));
  start = b.init;
}

-- `net` numbers the nets that the rules find: each dynamic net is a cell's, each group a latch's, each complement one of the deck's
pub record IsNumbered (c : CircuitData) (roles : Roles) (net : Net → ℕ) (s : Shape) : Type 0 where
  pub keepers : s.style ≡ WithKeeper
  pub shape : IsShape s
  pub some_clock : 1 ≤ roles.clocks
  pub clocks_are : s.clocks ≡ roles.clocks
  pub pins_are : s.pins ≡ roles.pins
  pub outs_are : length s.outputs ≡ roles.outs
  pub few : source_count roles ≤ length c.nets
  pub numbers : (a : Net) → IsSourceNet s a → net a ≡ port_number roles a
  pub outputs : (i : ℕ) (g : Gate) → IsOutputAt s i g → net (At (Sink i) Top) ≡ first_output roles + i
  pub cells : (k : ℕ) (cell : DominoCell) → IsCellAt s k cell → IsCellAs c.devices roles net k cell
  pub all_cells : (n : ℕ) → IsDynamic c.devices roles n → (k : ℕ) × (cell : DominoCell) × IsCellAt s k cell × (n ≡ net (At (Dynamic (left_side k)) Top))
  pub cells_once : (j k : ℕ) (cell cell' : DominoCell) → IsCellAt s j cell → IsCellAt s k cell'
      → net (At (Dynamic (left_side j)) Top) ≡ net (At (Dynamic (left_side k)) Top) → j ≡ k
  pub latches : (j : ℕ) (b : Latch) → IsLatchAt s j b → (places : List ℕ) × IsGroup c.devices roles (group_of net j b) places
  pub all_latches : (g : Group) (places : List ℕ) → IsGroup c.devices roles g places → (j : ℕ) × (b : Latch) × IsLatchAt s j b × (g ≡ group_of net j b)
  pub latches_once : (i j : ℕ) (b b' : Latch) → IsLatchAt s i b → IsLatchAt s j b' → net (At (Master i) Top) ≡ net (At (Master j) Top) → i ≡ j
  pub complements : (l : DeckSignal) → HasComplement s l → IsComplement c.devices roles (net (At (Complement l) Top)) (net (own l))
  pub all_complements : (n i : ℕ) → IsComplement c.devices roles n i → (l : DeckSignal) × HasComplement s l × (n ≡ net (At (Complement l) Top))
  pub nexts : (j : ℕ) (b : Latch) → IsLatchAt s j b → IsInverterOutput c.devices (net (At (Next j) Top)) (net (gate_net b.next))
  pub sinks : (i : ℕ) (g : Gate) → IsOutputAt s i g → IsInverterOutput c.devices (net (At (Sink i) Top)) (net (gate_net g))

-- where all rules hold, the circuit has the devices of that deck
abbrev pub RulesMakeDeck : Type 0
RulesMakeDeck =
    (c : CircuitData) (roles : Roles) (net : Net → ℕ) (s : Shape) → KeepsRules c.devices roles (length c.nets) → IsNumbered c roles net s
    → ((d : Device) (p : ℕ) → StandsAt c.devices p d → (d.drain < length c.nets) × (d.source < length c.nets))
    → IsExchangedDeck c roles net s
