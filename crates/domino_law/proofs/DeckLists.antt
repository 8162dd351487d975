-- The parts of a deck in order, as stages, and their devices.
use Rattle.std.specs.Prelude.{None, Option, Some}
use Rattle.std.proofs.Common.{Bool, List, [], false, map, true, ℕ, ◌++◌, ◌+◌, ◌∷◌, ◌≡◌}
use Rattle.dom_base.specs.declared.kind.Kind.TheVariants.{N as nch, P as pch}
use Rattle.deck.specs.declared.device.Device.{Device}
use Rattle.deck.specs.NamedDevices.{device_of}
use Rattle.sp_network.specs.Tree.{Leaf, Tree}
use Rattle.domino_cell.specs.Stage.{Branch, Inside, Top}
use Rattle.domino_cell.specs.Tapped.{Tap, tapped}
use Rattle.domino_law.specs.Branches.{dynamic, dynamic_taps, master, slave, static_branches}
use Rattle.domino_law.specs.Nets.{At, Complement, Dynamic, Gate, Lm, Lmb, Ls, Lsb, Master, Net, Next, Output, Part, Rs, Rsb, DeckSignal, Sink, Slave, Vdd, Vss, CellSide, Right, left_side, own, right_side}
use Rattle.domino_law.specs.Shape.{DominoCell, DynamicStage, Latch, Shape, dynamic_nets, gate_tree, left_stage, side_of}
use Rattle.domino_cell.specs.declared.style.Style.{Style}

-- a part with its branches
pub record StagePart : Type 0 where
  pub part : Part
  pub branches : List Branch
  pub taps : List Tap

-- the part of a side of a cell, and a static gate
abbrev pub side_part : Style → (Net → ℕ) → CellSide → DynamicStage → StagePart
side_part style net k c = record { part = Dynamic k; branches = dynamic style net k c; taps = dynamic_taps style net c }

abbrev pub static_part : (Net → ℕ) → Part → Tree Net → StagePart
static_part net part t = record { part = part; branches = static_branches net t; taps = [] }

abbrev pub right_parts : Style → (Net → ℕ) → ℕ → Option DynamicStage → List StagePart
right_parts style net k None = []
right_parts style net k (Some c) = side_part style net (right_side k) c ∷ []

-- a cell: its sides and its static gate
abbrev pub group_parts : Style → (Net → ℕ) → ℕ → DominoCell → List StagePart
group_parts style net k c =
    side_part style net (left_side k) (left_stage c)
    ∷ (right_parts style net k (side_of c Right) ++ static_part net (Output k) (dynamic_nets k c.right) ∷ [])

-- the cells from number k on
abbrev pub cell_parts : Style → (Net → ℕ) → ℕ → List DominoCell → List StagePart
cell_parts style net k [] = []
cell_parts style net k (c ∷ cs) = group_parts style net k c ++ cell_parts style net (k + 1) cs

-- the inverters of complements
abbrev pub complement_parts : (Net → ℕ) → List DeckSignal → List StagePart
complement_parts net [] = []
complement_parts net (l ∷ ls) = static_part net (Complement l) (Leaf (own l)) ∷ complement_parts net ls

-- the latches from number j on
abbrev pub latch_parts : (Net → ℕ) → ℕ → List Latch → List StagePart
latch_parts net j [] = []
latch_parts net j (b ∷ bs) =
    record { part = Master j; branches = master net j; taps = [] } ∷ record { part = Slave j; branches = slave net j b; taps = [] } ∷ latch_parts net (j + 1) bs

-- the static gates of output ports, and those of latch inputs
abbrev pub output_parts : (Net → ℕ) → Shape → ℕ → List Gate → List StagePart
output_parts net s i [] = []
output_parts net s i (g ∷ gs) = static_part net (Sink i) (gate_tree s g) ∷ output_parts net s (i + 1) gs

abbrev pub next_parts : (Net → ℕ) → Shape → ℕ → List Latch → List StagePart
next_parts net s j [] = []
next_parts net s j (b ∷ bs) = static_part net (Next j) (gate_tree s b.next) ∷ next_parts net s (j + 1) bs

-- all parts in order
abbrev pub deck_parts : (Net → ℕ) → Shape → List StagePart
deck_parts net s =
    cell_parts s.style net 0 s.cells
    ++ (complement_parts net s.complements ++ (latch_parts net 0 s.latches ++ (output_parts net s 0 s.outputs ++ next_parts net s 0 s.latches)))

-- the devices of parts
abbrev pub part_devices : (Net → ℕ) → StagePart → List Device
part_devices net p = map device_of (tapped (λ a. net (At p.part a)) p.branches p.taps)

abbrev pub parts_devices : (Net → ℕ) → List StagePart → List Device
parts_devices net [] = []
parts_devices net (p ∷ ps) = part_devices net p ++ parts_devices net ps

-- the reset device of a latch, and its nine devices
abbrev pub reset_device : (Net → ℕ) → ℕ → Bool → Device
reset_device net j false = record { kind = nch; drain = net (At (Slave j) Top); gate = net Rs; source = net Vss }
reset_device net j true = record { kind = pch; drain = net (At (Slave j) Top); gate = net Rsb; source = net Vdd }

abbrev pub latch_devices : (Net → ℕ) → ℕ → Bool → List Device
latch_devices net j init =
    record { kind = pch; drain = net (At (Master j) Top); gate = net Lmb; source = net (At (Master j) (Inside 0 0)) }
    ∷ record { kind = pch; drain = net (At (Master j) (Inside 0 0)); gate = net (At (Next j) Top); source = net Vdd }
    ∷ record { kind = nch; drain = net (At (Master j) Top); gate = net Lm; source = net (At (Master j) (Inside 1 0)) }
    ∷ record { kind = nch; drain = net (At (Master j) (Inside 1 0)); gate = net (At (Next j) Top); source = net Vss }
    ∷ record { kind = pch; drain = net (At (Slave j) Top); gate = net Lsb; source = net (At (Slave j) (Inside 0 0)) }
    ∷ record { kind = pch; drain = net (At (Slave j) (Inside 0 0)); gate = net (At (Master j) Top); source = net Vdd }
    ∷ record { kind = nch; drain = net (At (Slave j) Top); gate = net Ls; source = net (At (Slave j) (Inside 1 0)) }
    ∷ record { kind = nch; drain = net (At (Slave j) (Inside 1 0)); gate = net (At (Master j) Top); source = net Vss }
    ∷ reset_device net j init
    ∷ []

-- the two parts of a latch are its nine devices
abbrev pub LatchIsSpelled : Type 0
LatchIsSpelled =
    (net : Net → ℕ) (j : ℕ) (b : Latch)
    → part_devices net (record { part = Master j; branches = master net j; taps = [] }) ++ part_devices net (record { part = Slave j; branches = slave net j b; taps = [] })
    ≡ latch_devices net j b.init
