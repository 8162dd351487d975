-- What a loose domino deck consists of.
use Rattle.domino_cell.specs.declared.style.Style.{Style}
use Rattle.domino_cell.specs.declared.style.Style.TheVariants.{Keeper as WithKeeper}
use Rattle.std.specs.Prelude.{Bool, Contains, List, Some, slice_get, ℕ, ◌+◌, ◌<◌, ◌≡◌, ◌⊎◌, None, Option}
use Rattle.port_runs.specs.declared.clocking.Clocking.{Clocking}
use Rattle.port_runs.specs.declared.clocking.Clocking.TheVariants.{Overlapping}
use Rattle.sp_network.specs.Tree.{EachLeaf, Tree, Leaf, Series}
use Rattle.domino_law.specs.Nets.{FromDynamic, FromLatch, FromOutput, FromPin, Gate, High, Low, Minus, Plus, DeckSignal, At, CellSide, Dynamic, Left, Net, Right, Side, gate_net, leaf_of, left_side, right_side}
use Rattle.domino_cell.specs.Stage.{Top}

-- a domino cell: the number of its clock, from 0, its tree, and the right tree of a compound cell
pub record DominoCell : Type 0 where
  pub clock : ℕ
  pub tree : Tree Gate
  pub right : Option (Tree Gate)

-- a side of a cell: the number of its clock, and its tree
pub record DynamicStage : Type 0 where
  pub clock : ℕ
  pub tree : Tree Gate

abbrev pub left_stage : DominoCell → DynamicStage
left_stage c = record { clock = c.clock; tree = c.tree }

abbrev pub right_stage : ℕ → Option (Tree Gate) → Option DynamicStage
right_stage clock None = None
right_stage clock (Some t) = Some (record { clock = clock; tree = t })

abbrev pub side_of : DominoCell → Side → Option DynamicStage
side_of c Left = Some (left_stage c)
side_of c Right = right_stage c.clock c.right

-- a latch: its start value, which its reset device gives, and the gate of its input
pub record Latch : Type 0 where
  pub init : Bool
  pub next : Gate

-- the style of the cells; how its clocks may fall; how many pins and clocks there are; the signals that have a complement; the cells,
-- the latches, and the gates of the output ports, each in order
pub record Shape : Type 0 where
  pub style : Style
  pub clocking : Clocking
  pub pins : ℕ
  pub clocks : ℕ
  pub complements : List DeckSignal
  pub cells : List DominoCell
  pub latches : List Latch
  pub outputs : List Gate

-- the cell, the latch or the output stands at this place
abbrev pub IsCellAt : Shape → ℕ → DominoCell → Type 0
IsCellAt s k c = slice_get s.cells k ≡ Some c

-- the cell has this side, with this clock and tree
abbrev pub IsSideAt : Shape → CellSide → DynamicStage → Type 0
IsSideAt s k c = (cell : DominoCell) × IsCellAt s k.cell cell × (side_of cell k.side ≡ Some c)

abbrev pub IsLatchAt : Shape → ℕ → Latch → Type 0
IsLatchAt s j b = slice_get s.latches j ≡ Some b

abbrev pub IsOutputAt : Shape → ℕ → Gate → Type 0
IsOutputAt s i g = slice_get s.outputs i ≡ Some g

-- the signal is one of the deck's
abbrev pub IsSignal : Shape → DeckSignal → Type 0
IsSignal s (FromPin p) = p < s.pins
IsSignal s (FromLatch j) = (b : Latch) × IsLatchAt s j b

-- the deck has the inverter of this complement
abbrev pub HasComplement : Shape → DeckSignal → Type 0
HasComplement s l = Contains s.complements l

-- the gate is one of the deck's
abbrev pub IsGate : Shape → Gate → Type 0
IsGate s (Plus l) = IsSignal s l
IsGate s (Minus l) = HasComplement s l
IsGate s (FromOutput k) = (c : DominoCell) × IsCellAt s k c
IsGate s (FromDynamic k) = (c : DominoCell) × IsCellAt s k c
IsGate s High = Unit {0}
IsGate s Low = Unit {0}

-- the dynamic nets of cell k in series, where it may have a right tree
abbrev pub dynamic_nets : ℕ → Option (Tree Gate) → Tree Net
dynamic_nets k None = Leaf (At (Dynamic (left_side k)) Top)
dynamic_nets k (Some t) = Series (Leaf (At (Dynamic (left_side k)) Top)) (Leaf (At (Dynamic (right_side k)) Top))

abbrev pub cell_nets : ℕ → Option DominoCell → Tree Net
cell_nets k None = Leaf (At (Dynamic (left_side k)) Top)
cell_nets k (Some c) = dynamic_nets k c.right

-- the nets that a gate consists of
abbrev pub gate_tree : Shape → Gate → Tree Net
gate_tree s (FromDynamic k) = cell_nets k (slice_get s.cells k)
gate_tree s g = Leaf (gate_net g)

-- the gate may stand at a leaf of cell k: a rail, or the output of an earlier cell
abbrev pub IsLeafOf : Shape → ℕ → Gate → Type 0
IsLeafOf s k (Plus l) = IsSignal s l
IsLeafOf s k (Minus l) = HasComplement s l
IsLeafOf s k (FromOutput j) = (j < k) × ((c : DominoCell) × IsCellAt s j c)
IsLeafOf s k (FromDynamic j) = ⊥
IsLeafOf s k High = ⊥
IsLeafOf s k Low = ⊥

-- the gate is of no cell but of the clock i or the one before it, and of no cell but of the last clock
abbrev pub IsOfClocks : Shape → ℕ → Gate → Type 0
IsOfClocks s i (FromOutput j) = (c : DominoCell) → IsCellAt s j c → (c.clock ≡ i) ⊎ (c.clock + 1 ≡ i)
IsOfClocks s i _ = Unit {0}

abbrev pub IsOfLastClock : Shape → Gate → Type 0
IsOfLastClock s (FromOutput j) = (c : DominoCell) → IsCellAt s j c → c.clock + 1 ≡ s.clocks
IsOfLastClock s (FromDynamic j) = (c : DominoCell) → IsCellAt s j c → c.clock + 1 ≡ s.clocks
IsOfLastClock s _ = Unit {0}

-- the clocks may overlap: each cell has a keeper and reads cells of its own clock and of the one before alone, and a sink that reads a
-- cell reads one of the last clock
pub record MayOverlap (s : Shape) : Type 0 where
  pub keepers : s.style ≡ WithKeeper
  pub reads : (k : ℕ) (c : DominoCell) → IsCellAt s k c → EachLeaf (IsOfClocks s c.clock) c.tree
  pub nexts_last : (j : ℕ) (b : Latch) → IsLatchAt s j b → IsOfLastClock s b.next
  pub outputs_last : (i : ℕ) (g : Gate) → IsOutputAt s i g → IsOfLastClock s g

-- each gate that the deck names is there, and each clock; where its clocks overlap they may
pub record IsShape (s : Shape) : Type 0 where
  pub clocks_are : (k : CellSide) (c : DynamicStage) → IsSideAt s k c → c.clock < s.clocks
  pub leaves : (k : CellSide) (c : DynamicStage) → IsSideAt s k c → EachLeaf (IsLeafOf s k.cell) c.tree
  -- cells with keepers are simple
  pub simple : s.style ≡ WithKeeper → (k : ℕ) (c : DominoCell) → IsCellAt s k c → c.right ≡ None
  pub complements_are : (l : DeckSignal) → HasComplement s l → IsSignal s l
  -- each stands at most once, in order of the leaves
  pub complements_ordered : (i j : ℕ) (l m : DeckSignal) → i < j → slice_get s.complements i ≡ Some l → slice_get s.complements j ≡ Some m
      → leaf_of s.pins l < leaf_of s.pins m
  pub nexts : (j : ℕ) (b : Latch) → IsLatchAt s j b → IsGate s b.next
  pub outputs_are : (i : ℕ) (g : Gate) → IsOutputAt s i g → IsGate s g
  pub overlap : s.clocking ≡ Overlapping → MayOverlap s

-- the same shape, with clocks that may overlap
abbrev pub overlapping : Shape → Shape
overlapping s = record s { clocking = Overlapping }
