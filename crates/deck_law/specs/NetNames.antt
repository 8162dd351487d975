-- The names of a deck's nets, and a deck by names as a shape with a numbering of its nets (SPICE M cards).
use Rattle.std.specs.Prelude.{Bool, List, [], codes, cond, drop, false, length, map, nat_lt, slice_index_or, suc, take, true, zero, ℕ, ◌*◌, ◌++◌, ◌+◌, ◌-◌, ◌/◌, ◌==◌, ◌%◌, None}
use Rattle.std.specs.Fmt.{decimal}
use Rattle.std.specs.List.{zip}
use Rattle.deck.specs.Nets.{net_number}
use Rattle.sp_network.specs.Tree.{map_tree}
use Rattle.domino_cell.specs.Stage.{Inside, Top, Spot}
use Rattle.domino_law.specs.Nets.{At, Clock, Complement, Dynamic, FromDynamic, FromLatch, FromOutput, FromPin, Gate, High, Lm, Lmb, Low, Ls, Lsb, Master, Minus, Net, Next, Output, Pin, Plus, Rs, Rsb, DeckSignal, Sink, Slave, Vdd, Vss, Left, Right, Side, leaf_of}
use Rattle.domino_law.specs.Shape.{DominoCell, Latch, Shape}
use Rattle.domino_cell.specs.declared.style.Style.{Style}
use Rattle.deck_form.specs.DeckNets.{SinkEnd, Fixed, OfDynamic, OfLeaf, OfOutput, CellPlan, clock_net, complement_net, data_net, dynamic_net, output_net, vdd, vss}
use Rattle.port_runs.specs.declared.clocking.Clocking.TheVariants.{Together}

-- the name of a spot of a side of a cell
abbrev pub side_name : Side → ℕ → Spot → List ℕ
side_name Left k Top = dynamic_net k
side_name Left k (Inside i zero) = codes "f" ++ decimal k
side_name Left k (Inside i (suc j)) = codes "t" ++ decimal k ++ codes "_" ++ decimal j
side_name Right k Top = codes "e" ++ decimal k
side_name Right k (Inside i zero) = codes "g" ++ decimal k
side_name Right k (Inside i (suc j)) = codes "u" ++ decimal k ++ codes "_" ++ decimal j

-- the name of a spot of a static gate with this output
abbrev pub static_name : List ℕ → Spot → List ℕ
static_name out Top = out
static_name out (Inside zero j) = out ++ (codes "_p" ++ decimal j)
static_name out (Inside (suc i) j) = out ++ (codes "_n" ++ decimal j)

-- the name of a net of a deck
abbrev pub deck_name : List (List ℕ) → List (List ℕ) → Net → List ℕ
deck_name pins outs Vdd = vdd
deck_name pins outs Vss = vss
deck_name pins outs (Clock i) = clock_net (1 + i)
deck_name pins outs Lm = codes "lm"
deck_name pins outs Lmb = codes "lmb"
deck_name pins outs Ls = codes "ls"
deck_name pins outs Lsb = codes "lsb"
deck_name pins outs Rs = codes "rs"
deck_name pins outs Rsb = codes "rsb"
deck_name pins outs (Pin p) = slice_index_or pins p []
deck_name pins outs (At (Dynamic k) spot) = side_name k.side k.cell spot
deck_name pins outs (At (Output k) spot) = static_name (output_net k) spot
deck_name pins outs (At (Complement l) spot) = complement_net (leaf_of (length pins) l)
deck_name pins outs (At (Master j) Top) = codes "m" ++ decimal j
deck_name pins outs (At (Master j) (Inside zero i)) = codes "m" ++ decimal j ++ codes "p"
deck_name pins outs (At (Master j) (Inside (suc k) i)) = codes "m" ++ decimal j ++ codes "n"
deck_name pins outs (At (Slave j) Top) = codes "q" ++ decimal j
deck_name pins outs (At (Slave j) (Inside zero i)) = codes "q" ++ decimal j ++ codes "p"
deck_name pins outs (At (Slave j) (Inside (suc k) i)) = codes "q" ++ decimal j ++ codes "n"
deck_name pins outs (At (Next j) spot) = static_name (data_net j) spot
deck_name pins outs (At (Sink i) spot) = static_name (slice_index_or outs i []) spot

-- the number of a net among all names
abbrev pub numbering : List (List ℕ) → List (List ℕ) → List (List ℕ) → Net → ℕ
numbering nets pins outs a = net_number nets (deck_name pins outs a)

-- the signal of a leaf
abbrev pub leaf_signal : ℕ → ℕ → DeckSignal
leaf_signal pins leaf = cond (nat_lt leaf pins) (FromPin leaf) (FromLatch (leaf - pins))

-- the gate of a number: two rails for each leaf, then the outputs of the cells
abbrev pub rail_of : ℕ → ℕ → Bool → Gate
rail_of pins leaf true = Plus (leaf_signal pins leaf)
rail_of pins leaf false = Minus (leaf_signal pins leaf)

abbrev pub gate_of : ℕ → ℕ → ℕ → Gate
gate_of pins leaf_count gate =
    cond (nat_lt gate (2 * leaf_count)) (rail_of pins (gate / 2) (gate % 2 == 0)) (FromOutput (gate - 2 * leaf_count))

-- the gate of the inverter of a sink
abbrev pub end_gate : ℕ → SinkEnd → Gate
end_gate pins (Fixed false) = High
end_gate pins (Fixed true) = Low
end_gate pins (OfLeaf leaf plus) = cond plus (Minus (leaf_signal pins leaf)) (Plus (leaf_signal pins leaf))
end_gate pins (OfDynamic k) = FromDynamic k
end_gate pins (OfOutput k) = FromOutput k

abbrev pub cell_shape : ℕ → ℕ → CellPlan → DominoCell
cell_shape pins leaf_count c = record { clock = c.clock - 1; tree = map_tree (gate_of pins leaf_count) c.tree; right = None }

abbrev pub latch_shape : ℕ → Bool × SinkEnd → Latch
latch_shape pins p = record { init = p.0; next = end_gate pins p.1 }

-- the shape of a deck of these pins, outputs, start values, cells, complements and ends
abbrev pub deck_shape : Style → ℕ → List (List ℕ) → List (List ℕ) → List Bool → List CellPlan → List ℕ → List SinkEnd → Shape
deck_shape style clocks pins outs starts cells complements ends = record {
  style = style;
  clocking = Together;
  pins = length pins;
  clocks = clocks;
  complements = map (leaf_signal (length pins)) complements;
  cells = map (cell_shape (length pins) (length pins + length starts)) cells;
  latches = map (latch_shape (length pins)) (zip starts (drop (length outs) ends));
  outputs = map (end_gate (length pins)) (take (length outs) ends);
}
