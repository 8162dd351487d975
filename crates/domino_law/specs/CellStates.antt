-- What the nets of simple and of compound cells are in honest states, net by net (Rabaey, Digital Integrated Circuits: domino and
-- compound domino logic).
use Rattle.std.specs.Prelude.{None, Some, ℕ, ◌≡◌, ◌⊎◌}
use Rattle.dom_base.specs.declared.tri.Tri.{Tri}
use Rattle.dom_base.specs.declared.tri.Tri.TheVariants.{One, Zero}
use Rattle.deck.specs.Paths.{DefiniteStrong}
use Rattle.deck.specs.Switches.{value_of}
use Rattle.sp_network.specs.Known.{IsKnown}
use Rattle.sp_network.specs.Tree.{Tree}
use Rattle.domino_cell.specs.Stage.{Top}
use Rattle.switch_model.specs.LinksData.{LinksData, is_first}
use Rattle.port_runs.specs.Environment.{Precharge, World}
use Rattle.domino_law.specs.Honest.{Pair}
use Rattle.domino_law.specs.LooseDeck.{IsLooseDeck}
use Rattle.domino_law.specs.Nets.{At, CellSide, Clock, Dynamic, Gate, Net, Output, Vss, left_side, right_side}
use Rattle.domino_law.specs.Places.{AfterFall, up_at}
use Rattle.domino_law.specs.Runs.{IsHonestWorld}
use Rattle.domino_law.specs.Shape.{DominoCell, IsCellAt, Shape}

-- the clock has fallen, and its cells may not be precharged yet
abbrev pub HasFallen : World → ℕ → Type 0
HasFallen w i = up_at w.place w.risen w.fallen i ≡ AfterFall

-- a simple cell has with its clock at 1 one of (1,0), (0,0), (0,1); with its clock at 0 it has (1,0), and after the fall of its clock also
-- (0,1) or (1,1)
pub record HasPairs (net : Net → ℕ) (w : World) (k : ℕ) (c : DominoCell) : Type 0 where
  pub evaluated : value_of w.values (net (Clock c.clock)) ≡ One
      → Pair net w.values k One Zero ⊎ (Pair net w.values k Zero Zero ⊎ Pair net w.values k Zero One)
  pub idle : value_of w.values (net (Clock c.clock)) ≡ Zero
      → Pair net w.values k One Zero ⊎ (HasFallen w c.clock × (Pair net w.values k Zero One ⊎ Pair net w.values k One One))

abbrev pub SimpleCellsHavePairs : Type 0
SimpleCellsHavePairs =
    (links : LinksData) (net : Net → ℕ) (s : Shape) (w : World) → IsLooseDeck links net s → IsHonestWorld links net s w
    → (k : ℕ) (c : DominoCell) → IsCellAt s k c → c.right ≡ None → HasPairs net w k c

-- the value of one of a cell's dynamic nets, and of its output
abbrev pub dynamic_value : (Net → ℕ) → World → CellSide → Tri
dynamic_value net w side = value_of w.values (net (At (Dynamic side) Top))

abbrev pub output_value : (Net → ℕ) → World → ℕ → Tri
output_value net w k = value_of w.values (net (At (Output k) Top))

-- a dynamic net is 1, or 0 with a definite strong path to ground
abbrev pub IsHeld : LinksData → (Net → ℕ) → World → CellSide → Type 0
IsHeld links net w side =
    (dynamic_value net w side ≡ One) ⊎ ((dynamic_value net w side ≡ Zero)
    × DefiniteStrong links.devices (is_first links.sources) w.values (net (At (Dynamic side) Top)) (net Vss))

-- a compound cell: with its clock at 1 both dynamic nets are held, and its output is known and 1 only where one of them is 0; with its
-- clock at 0 both are 1 and its output is 0, and in precharge all three are known and its output is 1 wherever one of them is 0
pub record IsCompoundHonest (links : LinksData) (net : Net → ℕ) (w : World) (k : ℕ) (c : DominoCell) : Type 0 where
  pub held : value_of w.values (net (Clock c.clock)) ≡ One → IsHeld links net w (left_side k) × IsHeld links net w (right_side k)
  pub output : value_of w.values (net (Clock c.clock)) ≡ One → IsKnown (output_value net w k)
  pub risen : value_of w.values (net (Clock c.clock)) ≡ One → output_value net w k ≡ One
      → (dynamic_value net w (left_side k) ≡ Zero) ⊎ (dynamic_value net w (right_side k) ≡ Zero)
  pub idle : value_of w.values (net (Clock c.clock)) ≡ Zero
      → ((dynamic_value net w (left_side k) ≡ One) × (dynamic_value net w (right_side k) ≡ One) × (output_value net w k ≡ Zero)) ⊎ (w.place ≡ Precharge)
  pub precharged : w.place ≡ Precharge
      → IsKnown (dynamic_value net w (left_side k)) × IsKnown (dynamic_value net w (right_side k)) × IsKnown (output_value net w k)
  pub left_late : w.place ≡ Precharge → dynamic_value net w (left_side k) ≡ Zero → output_value net w k ≡ One
  pub right_late : w.place ≡ Precharge → dynamic_value net w (right_side k) ≡ Zero → output_value net w k ≡ One

abbrev pub CompoundCellsAreHonest : Type 0
CompoundCellsAreHonest =
    (links : LinksData) (net : Net → ℕ) (s : Shape) (w : World) → IsLooseDeck links net s → IsHonestWorld links net s w
    → (k : ℕ) (c : DominoCell) (t : Tree Gate) → IsCellAt s k c → c.right ≡ Some t → IsCompoundHonest links net w k c
