-- The own run of a loose domino deck: its outputs and its next state by its trees alone, as of a Mealy machine.
use Rattle.std.specs.Prelude.{Bool, List, [], false, map, not, slice_index_or, true, ℕ, ◌++◌, ◌∷◌, None, Option, Some, cond}
use Rattle.sp_network.specs.Tree.{joins, Tree}
use Rattle.domino_law.specs.Nets.{FromDynamic, FromLatch, FromOutput, FromPin, Gate, High, Low, Minus, Plus, DeckSignal}
use Rattle.domino_law.specs.Shape.{DominoCell, Shape}

-- the bit at a place, 0 past the end
abbrev pub bit_at : List Bool → ℕ → Bool
bit_at bits n = slice_index_or bits n false

-- the bits of the signals, from those of the pins and of the latches
abbrev pub signal_bit : (ℕ → Bool) → (ℕ → Bool) → DeckSignal → Bool
signal_bit pins state (FromPin p) = pins p
signal_bit pins state (FromLatch j) = state j

-- the bit at a gate, where the cells have these bits: a cell's output has its bit, its dynamic nets in series the opposite
abbrev pub gate_bit : (DeckSignal → Bool) → List Bool → Gate → Bool
gate_bit signal cells (Plus l) = signal l
gate_bit signal cells (Minus l) = not (signal l)
gate_bit signal cells (FromOutput k) = bit_at cells k
gate_bit signal cells (FromDynamic k) = not (bit_at cells k)
gate_bit signal cells High = true
gate_bit signal cells Low = false

-- the bit of a cell with this tree, and maybe a right one: whether one of its trees joins its ends
abbrev pub cell_bit : (Gate → Bool) → Tree Gate → Option (Tree Gate) → Bool
cell_bit bit tree None = joins bit tree
cell_bit bit tree (Some right) = cond (joins bit tree) true (joins bit right)

-- the bits of the cells, in order, by the bits of those before it
abbrev pub cell_bits : (DeckSignal → Bool) → List DominoCell → List Bool → List Bool
cell_bits signal [] before = before
cell_bits signal (c ∷ cs) before = cell_bits signal cs (before ++ cell_bit (gate_bit signal before) c.tree c.right ∷ [])

-- the bit of cell k in a cycle with these pins and this state
abbrev pub own_bit : Shape → (ℕ → Bool) → (ℕ → Bool) → ℕ → Bool
own_bit s pins state k = bit_at (cell_bits (signal_bit pins state) s.cells []) k

-- the bit that the static gate at a gate makes of it, in a cycle with these pins and this state
abbrev pub sink_bit : Shape → (ℕ → Bool) → (ℕ → Bool) → Gate → Bool
sink_bit s pins state g = not (gate_bit (signal_bit pins state) (cell_bits (signal_bit pins state) s.cells []) g)

-- the outputs of a cycle
abbrev pub outputs_of : Shape → List Bool → List Bool → List Bool
outputs_of s state pins = map (sink_bit s (bit_at pins) (bit_at state)) s.outputs

-- the next state
abbrev pub next_state : Shape → List Bool → List Bool → List Bool
next_state s state pins = map (λ b. sink_bit s (bit_at pins) (bit_at state) b.next) s.latches

-- the state that the latches start in
abbrev pub start_state : Shape → List Bool
start_state s = map (λ b. b.init) s.latches

-- the state after cycles with these pins
abbrev pub state_from : Shape → List Bool → List (List Bool) → List Bool
state_from s state [] = state
state_from s state (pins ∷ stream) = state_from s (next_state s state pins) stream

abbrev pub state_after : Shape → List (List Bool) → List Bool
state_after s stream = state_from s (start_state s) stream
