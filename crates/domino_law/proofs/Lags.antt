-- How far the static gates are behind the nets that gate them.
use Rattle.std.specs.Prelude.{◌⊎◌, None, Option, Some, slice_get}
use Rattle.std.proofs.Common.{Bool, List, ℕ, ◌≡◌, inl, inr, refl}
use Rattle.dom_base.specs.Tri.{opposite}
use Rattle.dom_base.specs.declared.tri.Tri.{Tri}
use Rattle.dom_base.specs.declared.tri.Tri.TheVariants.{One, Zero}
use Rattle.deck.specs.Switches.{value_of}
use Rattle.domino_cell.specs.Stage.{Top}
use Rattle.port_runs.specs.Environment.{Evaluation, Launch, Launched, Place, bit}
use Rattle.domino_law.specs.Nets.{At, Complement, FromDynamic, FromLatch, FromOutput, FromPin, Gate, High, Low, Minus, Net, Next, Plus, DeckSignal, Sink, own}
use Rattle.domino_law.specs.Shape.{HasComplement, IsLatchAt, IsOutputAt, Latch, Shape, DominoCell, gate_tree}
use Rattle.domino_law.specs.Places.{AfterFall, BeforeRise, ClockState, Raised}
use Rattle.sp_network.specs.Known.{IsKnown}
use Rattle.sp_network.specs.Tree.{Leaf, Tree}
use Rattle.domino_law.specs.Honest.{static_value}
use Rattle.domino_law.proofs.Places.{bit-known}

abbrev pub slave_goal : Place → Tri → Tri → Tri
slave_goal Launch old new = new
slave_goal Launched old new = new
slave_goal _ old new = old

-- in evaluation a dynamic net falls, unless its clock has fallen
abbrev pub dynamic_goal : Place → ClockState → Tri
dynamic_goal Evaluation BeforeRise = Zero
dynamic_goal Evaluation Raised = Zero
dynamic_goal Evaluation AfterFall = One
dynamic_goal _ c = One

-- where the clock of a cell stands
abbrev pub cell_state : (ℕ → ClockState) → Option DominoCell → ClockState
cell_state up None = BeforeRise
cell_state up (Some c) = up c.clock

-- the last value that an event in this place can give a signal
abbrev pub own_goal : Place → (ℕ → Bool) → (ℕ → Bool) → (ℕ → Bool) → DeckSignal → Tri
own_goal place old new pins (FromPin p) = bit (pins p)
own_goal place old new pins (FromLatch j) = slave_goal place (bit (old j)) (bit (new j))

-- and a gate
abbrev pub gate_goal : Shape → Place → (ℕ → ClockState) → (ℕ → Bool) → (ℕ → Bool) → (ℕ → Bool) → Gate → Tri
gate_goal s place up old new pins (Plus l) = own_goal place old new pins l
gate_goal s place up old new pins (Minus l) = opposite (own_goal place old new pins l)
gate_goal s place up old new pins (FromOutput k) = opposite (dynamic_goal place (cell_state up (slice_get s.cells k)))
gate_goal s place up old new pins (FromDynamic k) = dynamic_goal place (cell_state up (slice_get s.cells k))
gate_goal s place up old new pins High = One
gate_goal s place up old new pins Low = Zero

goal_slave-known : (place : Place) (old new : Tri) → IsKnown old → IsKnown new → IsKnown (slave_goal place old new)
goal_slave-known Launch old new a b = b
goal_slave-known Launched old new a b = b
goal_slave-known _ old new a b = a

pub goal-known : (s : Shape) (place : Place) (up : ℕ → ClockState) (old new pins : ℕ → Bool) (g : Gate) → IsKnown (gate_goal s place up old new pins g)
goal-known s place up old new pins g = by g
  where
    own-known : (l : DeckSignal) → IsKnown (own_goal place old new pins l)
    own-known (FromPin p) = bit-known (pins p)
    own-known (FromLatch j) = goal_slave-known place (bit (old j)) (bit (new j)) (bit-known (old j)) (bit-known (new j))

    turned : (w : Tri) → IsKnown w → IsKnown (opposite w)
    turned w (inl e) = inr (rw e refl)
    turned w (inr e) = inl (rw e refl)

    dynamic-known : (pl : Place) (c : ClockState) → IsKnown (dynamic_goal pl c)
    dynamic-known Evaluation BeforeRise = inl refl
    dynamic-known Evaluation Raised = inl refl
    dynamic-known Evaluation AfterFall = inr refl
    dynamic-known _ c = inr refl

    by : (g : Gate) → IsKnown (gate_goal s place up old new pins g)
    by (Plus l) = own-known l
    by (Minus l) = turned _ (own-known l)
    by (FromOutput k) = turned _ (dynamic-known place _)
    by (FromDynamic k) = dynamic-known place _
    by High = inr refl
    by Low = inl refl

-- the nets have their last value, or the static gate is its opposite
abbrev pub IsLag : (Net → ℕ) → List Tri → Tri → Tree Net → ℕ → Type 0
IsLag net values goal t top = (static_value net values t ≡ goal) ⊎ (value_of values top ≡ opposite (static_value net values t))

-- so it is with each static gate but those of the cells
pub record IsInStep (net : Net → ℕ) (s : Shape) (place : Place) (up : ℕ → ClockState) (old new pins : ℕ → Bool) (values : List Tri) : Type 0 where
  pub complements : (l : DeckSignal) → HasComplement s l → IsLag net values (own_goal place old new pins l) (Leaf (own l)) (net (At (Complement l) Top))
  pub nexts : (j : ℕ) (b : Latch) → IsLatchAt s j b → IsLag net values (gate_goal s place up old new pins b.next) (gate_tree s b.next) (net (At (Next j) Top))
  pub outputs : (i : ℕ) (g : Gate) → IsOutputAt s i g → IsLag net values (gate_goal s place up old new pins g) (gate_tree s g) (net (At (Sink i) Top))
