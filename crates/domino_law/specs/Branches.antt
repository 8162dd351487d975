-- The parts of a deck as stages, where `net` numbers the nets (Rabaey, Digital Integrated Circuits: dynamic logic, keepers,
-- precharge of inner nets; registers of clocked inverters).
use Rattle.std.specs.Prelude.{Bool, List, [], false, true, ℕ, ◌∷◌, ◌≡◌}
use Rattle.dom_base.specs.declared.kind.Kind.TheVariants.{Keep, N as nch, P as pch}
use Rattle.sp_network.specs.Tree.{Leaf, Series, Tree, dual, map_tree}
use Rattle.domino_cell.specs.Stage.{Branch, Top}
use Rattle.stage_law.specs.Precharged.{inner_taps}
use Rattle.domino_cell.specs.Tapped.{Tap}
use Rattle.domino_law.specs.Nets.{At, CellSide, Clock, Complement, Dynamic, Gate, Lm, Lmb, Ls, Lsb, Master, Net, Next, Output, Part, Rs, Rsb, Sink, Slave, Vdd, Vss, gate_net, own}
use Rattle.domino_law.specs.Shape.{DominoCell, DynamicStage, HasComplement, IsCellAt, IsLatchAt, IsOutputAt, IsSideAt, Latch, Shape, dynamic_nets, gate_tree}
use Rattle.domino_cell.specs.declared.style.Style.{Style}
use Rattle.domino_cell.specs.declared.style.Style.TheVariants.{Keeper as WithKeeper, Precharge as WithPrecharge}

-- a static gate of nets: the dual tree to the high supply and the tree to the low one; that of one net is an inverter
abbrev pub static_branches : (Net → ℕ) → Tree Net → List Branch
static_branches net t =
    record { kind = pch; tree = map_tree net (dual t); supply = net Vdd }
    ∷ record { kind = nch; tree = map_tree net t; supply = net Vss }
    ∷ []

-- the tree of a side over numbers
abbrev pub numbered : (Net → ℕ) → Tree Gate → Tree ℕ
numbered net t = map_tree (λ g. net (gate_net g)) t

-- the keeper, in the style that has one
abbrev pub keepers : Style → (Net → ℕ) → CellSide → List Branch
keepers WithKeeper net k = record { kind = Keep; tree = Leaf (net (At (Output k.cell) Top)); supply = net Vdd } ∷ []
keepers WithPrecharge net k = []

-- the tree in series with the foot, the precharge and the keeper
abbrev pub dynamic : Style → (Net → ℕ) → CellSide → DynamicStage → List Branch
dynamic style net k c =
    record { kind = nch; tree = Series (numbered net c.tree) (Leaf (net (Clock c.clock))); supply = net Vss }
    ∷ record { kind = pch; tree = Leaf (net (Clock c.clock)); supply = net Vdd }
    ∷ keepers style net k

-- the precharge devices of the inner nets, in the style that has them
abbrev pub dynamic_taps : Style → (Net → ℕ) → DynamicStage → List Tap
dynamic_taps WithKeeper net c = []
dynamic_taps WithPrecharge net c = inner_taps (net Vdd) (net (Clock c.clock)) (numbered net c.tree)

-- an inverter whose two halves a pair of clocks opens, and more branches
abbrev pub clocked : (Net → ℕ) → Net → Net → Net → List Branch → List Branch
clocked net up down gate more =
    record { kind = pch; tree = Series (Leaf (net up)) (Leaf (net gate)); supply = net Vdd }
    ∷ record { kind = nch; tree = Series (Leaf (net down)) (Leaf (net gate)); supply = net Vss }
    ∷ more

-- the reset device of a latch, by its start value
abbrev pub reset_branch : (Net → ℕ) → Bool → Branch
reset_branch net false = record { kind = nch; tree = Leaf (net Rs); supply = net Vss }
reset_branch net true = record { kind = pch; tree = Leaf (net Rsb); supply = net Vdd }

-- the branches of the master and of the slave of a latch
abbrev pub master : (Net → ℕ) → ℕ → List Branch
master net j = clocked net Lmb Lm (At (Next j) Top) []

abbrev pub slave : (Net → ℕ) → ℕ → Latch → List Branch
slave net j b = clocked net Lsb Ls (At (Master j) Top) (reset_branch net b.init ∷ [])

-- the part is one of the deck's, and these are its branches and its taps
abbrev pub HasBranches : Shape → (Net → ℕ) → Part → List Branch → List Tap → Type 0
HasBranches s net (Dynamic k) bs taps =
    (c : DynamicStage) × IsSideAt s k c × (bs ≡ dynamic s.style net k c) × (taps ≡ dynamic_taps s.style net c)
HasBranches s net (Output k) bs taps = (c : DominoCell) × IsCellAt s k c × (bs ≡ static_branches net (dynamic_nets k c.right)) × (taps ≡ [])
HasBranches s net (Complement l) bs taps = HasComplement s l × (bs ≡ static_branches net (Leaf (own l))) × (taps ≡ [])
HasBranches s net (Master j) bs taps = (b : Latch) × IsLatchAt s j b × (bs ≡ master net j) × (taps ≡ [])
HasBranches s net (Slave j) bs taps = (b : Latch) × IsLatchAt s j b × (bs ≡ slave net j b) × (taps ≡ [])
HasBranches s net (Next j) bs taps = (b : Latch) × IsLatchAt s j b × (bs ≡ static_branches net (gate_tree s b.next)) × (taps ≡ [])
HasBranches s net (Sink i) bs taps = (g : Gate) × IsOutputAt s i g × (bs ≡ static_branches net (gate_tree s g)) × (taps ≡ [])
