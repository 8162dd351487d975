-- The nets of a domino deck, by what they are.
use Rattle.std.specs.Prelude.{ℕ, ◌+◌}
use Rattle.domino_cell.specs.Stage.{Spot, Top}

-- a pin, or the output of a latch, by its number
pub data DeckSignal : Type 0 where
  FromPin : ℕ → DeckSignal
  FromLatch : ℕ → DeckSignal

-- the number of a signal's leaf, where there are so many pins: pins first, then latches
abbrev pub leaf_of : ℕ → DeckSignal → ℕ
leaf_of pins (FromPin p) = p
leaf_of pins (FromLatch j) = pins + j

-- the sides of a cell: a simple cell has the left one, a compound cell both
pub data Side : Type 0 where
  Left : Side
  Right : Side

-- a side of the cell with this number
pub record CellSide : Type 0 where
  pub cell : ℕ
  pub side : Side

abbrev pub left_side : ℕ → CellSide
left_side k = record { cell = k; side = Left }

abbrev pub right_side : ℕ → CellSide
right_side k = record { cell = k; side = Right }

-- the parts of a deck; each is a stage with one net that it drives
pub data Part : Type 0 where
  -- the dynamic net of a side of a cell with its precharge, its keeper where it has one, its tree and its foot
  Dynamic : CellSide → Part
  -- the static gate of a cell's dynamic nets
  Output : ℕ → Part
  -- the inverter of a complement
  Complement : DeckSignal → Part
  -- the master and the slave of a latch
  Master : ℕ → Part
  Slave : ℕ → Part
  -- the static gate of a latch input, and that of an output port
  Next : ℕ → Part
  Sink : ℕ → Part

-- the nets of a deck: the supplies, the clocks, the clocks and resets of the latches, the pins, and the nets of the parts
pub data Net : Type 0 where
  Vdd : Net
  Vss : Net
  Clock : ℕ → Net
  Lm : Net
  Lmb : Net
  Ls : Net
  Lsb : Net
  Rs : Net
  Rsb : Net
  Pin : ℕ → Net
  At : Part → Spot → Net

-- the net of a signal
abbrev pub own : DeckSignal → Net
own (FromPin p) = Pin p
own (FromLatch j) = At (Slave j) Top

-- what may gate a leaf of a tree or a sink: a rail of a signal, the output of a cell, its dynamic nets in series, or a supply
pub data Gate : Type 0 where
  Plus : DeckSignal → Gate
  Minus : DeckSignal → Gate
  FromOutput : ℕ → Gate
  FromDynamic : ℕ → Gate
  High : Gate
  Low : Gate

-- the net of a gate; of a cell's dynamic nets it is the left one
abbrev pub gate_net : Gate → Net
gate_net (Plus l) = own l
gate_net (Minus l) = At (Complement l) Top
gate_net (FromOutput k) = At (Output k) Top
gate_net (FromDynamic k) = At (Dynamic (left_side k)) Top
gate_net High = Vdd
gate_net Low = Vss
