-- Honest states of a loose domino deck: what its clocks, cells, latches and sinks have at each place of a run (Rabaey, Digital
-- Integrated Circuits: domino logic).
use Rattle.std.specs.Prelude.{Bool, List, false, suc, true, zero, ℕ, ◌+◌, ◌<◌, ◌≡◌, ◌⊎◌}
use Rattle.dom_base.specs.Tri.{opposite}
use Rattle.dom_base.specs.declared.kind.Kind.TheVariants.{N as nch}
use Rattle.dom_base.specs.declared.tri.Tri.{Tri}
use Rattle.dom_base.specs.declared.tri.Tri.TheVariants.{One, Zero}
use Rattle.deck.specs.Paths.{DefiniteStrong, Possible}
use Rattle.deck.specs.Switches.{value_of}
use Rattle.deck.specs.declared.device.Device.{Device}
use Rattle.sp_network.specs.Known.{IsKnown}
use Rattle.sp_network.specs.Tree.{inner_count, tree_conduction, Tree}
use Rattle.domino_cell.specs.Stage.{Inside, Spot, Top}
use Rattle.port_runs.specs.Environment.{Capture, Captured, Evaluation, Launch, Launched, Pins, Place, Precharge, Released, Reset, bit}
use Rattle.domino_law.specs.Nets.{At, Clock, Complement, Dynamic, Gate, Master, Net, Next, Output, DeckSignal, Sink, Slave, Vss, gate_net, own, CellSide, left_side}
use Rattle.domino_law.specs.Shape.{DominoCell, HasComplement, IsCellAt, IsLatchAt, IsOutputAt, Latch, Shape, DynamicStage, IsSideAt, dynamic_nets, gate_tree, left_stage}
use Rattle.domino_cell.specs.declared.style.Style.{Style}
use Rattle.domino_cell.specs.declared.style.Style.TheVariants.{Keeper as WithKeeper, Precharge as WithPrecharge}
use Rattle.domino_law.specs.OwnRun.{own_bit}
use Rattle.domino_law.specs.Places.{AfterFall, AreClocksAt, AreSourcesBy, ClockState}

-- the value of nets in series and parallel: One where all that lie on a way through them are
abbrev pub static_value : (Net → ℕ) → List Tri → Tree Net → Tri
static_value net values t = tree_conduction nch (λ a. value_of values (net a)) t

-- the value of a gate: of a compound cell's dynamic nets it is One where both are
abbrev pub gate_value : (Net → ℕ) → Shape → List Tri → Gate → Tri
gate_value net s values g = static_value net values (gate_tree s g)

-- whether the tree of a side of a cell conducts
abbrev pub cell_conduction : (Net → ℕ) → List Tri → DynamicStage → Tri
cell_conduction net values c = tree_conduction nch (λ g. value_of values (net (gate_net g))) c.tree

-- in capture and captured: a fact that is asked for there alone
abbrev pub AtCapture : Place → Type 0 → Type 0
AtCapture Capture F = F
AtCapture Captured F = F
AtCapture _ F = Unit {0}

-- a complement is known; from evaluation to precharge it is the opposite of its leaf
abbrev pub IsOpposed : Place → Tri → Tri → Type 0
IsOpposed Evaluation leaf v = v ≡ opposite leaf
IsOpposed Capture leaf v = v ≡ opposite leaf
IsOpposed Captured leaf v = v ≡ opposite leaf
IsOpposed Precharge leaf v = v ≡ opposite leaf
IsOpposed _ leaf v = IsKnown v

-- the output of a latch, by the state before the cycle and the next one
abbrev pub IsSlaveAt : Place → Tri → Tri → Tri → Type 0
IsSlaveAt Launch old new v = (v ≡ old) ⊎ (v ≡ new)
IsSlaveAt Launched old new v = v ≡ new
IsSlaveAt _ old new v = v ≡ old

-- the master of a latch, by its value before capture and the next state
abbrev pub IsMasterAt : Place → Tri → Tri → Tri → Type 0
IsMasterAt Reset kept new v = v ≡ kept
IsMasterAt Released kept new v = v ≡ kept
IsMasterAt Pins kept new v = v ≡ kept
IsMasterAt Evaluation kept new v = v ≡ kept
IsMasterAt Capture kept new v = (v ≡ kept) ⊎ (v ≡ opposite new)
IsMasterAt _ kept new v = v ≡ opposite new

-- the spot of a side of a cell is dynamic: its top, and in the style with precharge each inner net of its tree
abbrev pub IsDynamicSpot : Style → DynamicStage → Spot → Type 0
IsDynamicSpot style c Top = Unit {0}
IsDynamicSpot WithKeeper c (Inside i j) = ⊥
IsDynamicSpot WithPrecharge c (Inside i j) = (i ≡ 0) × (0 < j) × (j < 1 + inner_count c.tree)

-- the clock before clock i has fallen
abbrev pub HasPreviousFallen : (ℕ → ClockState) → ℕ → Type 0
HasPreviousFallen up zero = ⊥
HasPreviousFallen up (suc i) = up i ≡ AfterFall

-- the values of the dynamic net of a cell's left side and of its output
abbrev pub Pair : (Net → ℕ) → List Tri → ℕ → Tri → Tri → Type 0
Pair net values k d z = (value_of values (net (At (Dynamic (left_side k)) Top)) ≡ d) × (value_of values (net (At (Output k) Top)) ≡ z)

-- a cell that holds what it has evaluated, whatever of its leaves fall (it has a keeper, so it is simple): it has its bit of the own run;
-- at bit 0 its tree doesn't conduct; at bit 1 each net that a possible path joins to its dynamic net is 0, as that net is
pub record IsHeldCell (devices : List Device) (is_source : ℕ → Bool) (net : Net → ℕ) (own : Bool) (values : List Tri) (k : ℕ) (c : DominoCell) : Type 0 where
  pub pair : Pair net values k (opposite (bit own)) (bit own)
  pub shut : own ≡ false → cell_conduction net values (left_stage c) ≡ Zero
  pub discharged : own ≡ true → (n : ℕ) → Possible devices is_source values (net (At (Dynamic (left_side k)) Top)) n → value_of values n ≡ Zero

-- a side of a cell, by where the clocks stand
pub record IsHonestSide (devices : List Device) (is_source : ℕ → Bool) (net : Net → ℕ) (style : Style) (up : ℕ → ClockState) (values : List Tri)
    (k : CellSide) (c : DynamicStage) : Type 0 where
  -- with its clock at 1, before the clock before its own has fallen, there is a definite strong path to ground where one of its dynamic
  -- nets is 0
  pub pulled : value_of values (net (Clock c.clock)) ≡ One → (HasPreviousFallen up c.clock → ⊥) → (a : Spot) → IsDynamicSpot style c a
      → value_of values (net (At (Dynamic k) a)) ≡ Zero → DefiniteStrong devices is_source values (net (At (Dynamic k) a)) (net Vss)
  -- its dynamic nets are known; with its clock at 0 they are 1, but it may be late, not yet precharged, after the fall of its clock
  pub spots_known : (a : Spot) → IsDynamicSpot style c a → IsKnown (value_of values (net (At (Dynamic k) a)))
  pub spots_idle : value_of values (net (Clock c.clock)) ≡ Zero → (a : Spot) → IsDynamicSpot style c a
      → (value_of values (net (At (Dynamic k) a)) ≡ One) ⊎ (up c.clock ≡ AfterFall)

-- the output of a cell, by its dynamic nets in series, whose value is 1 where all are
pub record IsHonestOutput (net : Net → ℕ) (up : ℕ → ClockState) (values : List Tri) (k : ℕ) (c : DominoCell) : Type 0 where
  -- with its clock at 1 it is 0 or 1, and 1 only where a dynamic net is 0
  pub evaluated : value_of values (net (Clock c.clock)) ≡ One → (value_of values (net (At (Output k) Top)) ≡ Zero)
      ⊎ ((value_of values (net (At (Output k) Top)) ≡ One) × (static_value net values (dynamic_nets k c.right) ≡ Zero))
  -- with its clock at 0 it is 0 and all dynamic nets are 1; where they may be late it is known, and 1 wherever a dynamic net is 0
  pub idle : value_of values (net (Clock c.clock)) ≡ Zero
      → ((static_value net values (dynamic_nets k c.right) ≡ One) × (value_of values (net (At (Output k) Top)) ≡ Zero))
      ⊎ ((up c.clock ≡ AfterFall) × IsKnown (value_of values (net (At (Output k) Top)))
      × (static_value net values (dynamic_nets k c.right) ≡ Zero → value_of values (net (At (Output k) Top)) ≡ One))

-- Below, up tells where the clocks stand, old and new are the states before the cycle and after it, pins the bits of the pins, and kept
-- what the masters held before capture.

-- all but the cells: the sources, the complements, the latches, their inputs and the outputs
pub record IsHonestFrame (net : Net → ℕ) (s : Shape) (place : Place) (up : ℕ → ClockState) (old new pins : ℕ → Bool) (kept : ℕ → Tri)
    (values : List Tri) : Type 0 where
  pub sources : AreSourcesBy net s place up pins values
  pub clocks : AreClocksAt s place up
  pub complements : (l : DeckSignal) → HasComplement s l → IsKnown (value_of values (net (At (Complement l) Top)))
  pub opposed : (l : DeckSignal) → HasComplement s l
      → IsOpposed place (value_of values (net (own l))) (value_of values (net (At (Complement l) Top)))
  pub slaves : (j : ℕ) (b : Latch) → IsLatchAt s j b
      → IsSlaveAt place (bit (old j)) (bit (new j)) (value_of values (net (At (Slave j) Top)))
  pub masters : (j : ℕ) (b : Latch) → IsLatchAt s j b → IsMasterAt place (kept j) (bit (new j)) (value_of values (net (At (Master j) Top)))
  -- in reset each latch has its start value
  pub started : place ≡ Reset → (j : ℕ) (b : Latch) → IsLatchAt s j b → old j ≡ b.init
  -- the latch inputs and the outputs are known, and in capture and captured the latch inputs are the next state
  pub nexts : (j : ℕ) (b : Latch) → IsLatchAt s j b → IsKnown (value_of values (net (At (Next j) Top)))
  pub next_is : (j : ℕ) (b : Latch) → IsLatchAt s j b → AtCapture place (value_of values (net (At (Next j) Top)) ≡ bit (new j))
  pub outputs : (i : ℕ) (g : Gate) → IsOutputAt s i g → IsKnown (value_of values (net (At (Sink i) Top)))

-- the cells: their sides and their outputs, and from the fall of the clock before its own an up cell holds its bit of the own run
pub record AreHonestCells (devices : List Device) (is_source : ℕ → Bool) (net : Net → ℕ) (s : Shape) (up : ℕ → ClockState)
    (old pins : ℕ → Bool) (values : List Tri) : Type 0 where
  pub sides : (k : CellSide) (c : DynamicStage) → IsSideAt s k c → IsHonestSide devices is_source net s.style up values k c
  pub outs : (k : ℕ) (c : DominoCell) → IsCellAt s k c → IsHonestOutput net up values k c
  pub held : (k : ℕ) (c : DominoCell) → IsCellAt s k c → value_of values (net (Clock c.clock)) ≡ One → HasPreviousFallen up c.clock
      → IsHeldCell devices is_source net (own_bit s pins old k) values k c

-- the nets of the cells, the latch inputs and the outputs are at their targets: a side is precharged where its clock is at 0, else the
-- opposite of its tree unless it holds
pub record HoldsTargets (net : Net → ℕ) (s : Shape) (up : ℕ → ClockState) (values : List Tri) : Type 0 where
  pub sides : (k : CellSide) (c : DynamicStage) → IsSideAt s k c
      → (value_of values (net (Clock c.clock)) ≡ One → (HasPreviousFallen up c.clock → ⊥)
      → value_of values (net (At (Dynamic k) Top)) ≡ opposite (cell_conduction net values c))
      × (value_of values (net (Clock c.clock)) ≡ Zero → value_of values (net (At (Dynamic k) Top)) ≡ One)
  pub cells : (k : ℕ) (c : DominoCell) → IsCellAt s k c
      → value_of values (net (At (Output k) Top)) ≡ opposite (static_value net values (dynamic_nets k c.right))
  pub nexts : (j : ℕ) (b : Latch) → IsLatchAt s j b
      → value_of values (net (At (Next j) Top)) ≡ opposite (gate_value net s values b.next)
  pub outputs : (i : ℕ) (g : Gate) → IsOutputAt s i g
      → value_of values (net (At (Sink i) Top)) ≡ opposite (gate_value net s values g)

-- an honest state; in capture and captured it is settled
pub record IsHonest (devices : List Device) (is_source : ℕ → Bool) (net : Net → ℕ) (s : Shape) (place : Place) (up : ℕ → ClockState)
    (old new pins : ℕ → Bool) (kept : ℕ → Tri) (values : List Tri) : Type 0 where
  pub frame : IsHonestFrame net s place up old new pins kept values
  pub cells : AreHonestCells devices is_source net s up old pins values
  pub settled : AtCapture place (HoldsTargets net s up values)
