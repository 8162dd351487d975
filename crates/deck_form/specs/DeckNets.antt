-- The names of the nets of a deck, and the cards of its parts.
use Rattle.std.specs.Prelude.{ℕ, ◌+◌, ◌-◌, ◌*◌, ◌/◌, ◌%◌, ◌==◌, Bool, true, false, cond, nat_lt, List, [], ◌++◌, length, map, flat_map, slice_index_or, codes}
use Rattle.std.specs.Fmt.{decimal}
use Rattle.std.specs.List.{enumerate_from, zip}
use Rattle.deck.specs.NamedDevices.{NamedDevice}
use Rattle.domino_cell.specs.Cell.{inverter}
use Rattle.domino_cell.specs.StyledCells.{styled_cell}
use Rattle.domino_cell.specs.declared.style.Style.{Style}
use Rattle.sp_network.specs.Tree.{map_tree}
use Rattle.domino_cell.specs.PushedNames.{numbered_cell}
pub use Rattle.clock_phase.specs.Plans.{CellPlan}
pub use Rattle.latch_bind.specs.Latches.{data_net, named_latch, named_reset}

abbrev pub vdd : List ℕ
vdd = codes "vdd"

abbrev pub vss : List ℕ
vss = codes "vss"

abbrev pub clock_net : ℕ → List ℕ
clock_net clock = codes "ck" ++ decimal clock

-- the dynamic net and the output of cell k
abbrev pub dynamic_net : ℕ → List ℕ
dynamic_net k = codes "d" ++ decimal k

abbrev pub output_net : ℕ → List ℕ
output_net k = codes "z" ++ decimal k

-- the own net of a leaf: the pins stand first, then the outputs of the latches
abbrev pub own_net : List (List ℕ) → ℕ → List ℕ
own_net pins leaf = cond (nat_lt leaf (length pins)) (slice_index_or pins leaf []) (codes "q" ++ decimal (leaf - length pins))

abbrev pub complement_net : ℕ → List ℕ
complement_net leaf = codes "c" ++ decimal leaf

abbrev pub rail_net : List (List ℕ) → ℕ → Bool → List ℕ
rail_net pins leaf true = own_net pins leaf
rail_net pins leaf false = complement_net leaf

-- the net of a gate, of so many leaves: their rails, two each, and then the outputs of the cells
abbrev pub named_gate : List (List ℕ) → ℕ → ℕ → List ℕ
named_gate pins leaf_count gate =
    cond (nat_lt gate (2 * leaf_count)) (rail_net pins (gate / 2) (gate % 2 == 0)) (output_net (gate - 2 * leaf_count))

abbrev pub named_cell : Style → List (List ℕ) → ℕ → ℕ × CellPlan → List (NamedDevice (List ℕ))
named_cell style pins leaf_count p = styled_cell style (numbered_cell p.1.clock p.0) (map_tree (named_gate pins leaf_count) p.1.tree)

abbrev pub named_complement : List (List ℕ) → ℕ → List (NamedDevice (List ℕ))
named_complement pins leaf = inverter vdd vss (own_net pins leaf) (complement_net leaf)

-- what a sink is taken from: a constant, a leaf as it is (true) or its opposite, or the dynamic net or the output of a cell
pub data SinkEnd : Type 0 where
  Fixed : Bool → SinkEnd
  OfLeaf : ℕ → Bool → SinkEnd
  OfDynamic : ℕ → SinkEnd
  OfOutput : ℕ → SinkEnd

-- the gate of a sink's inverter: the supply of the other value, the opposite rail of the leaf, the dynamic net or the output
abbrev pub sink_gate : List (List ℕ) → SinkEnd → List ℕ
sink_gate pins (Fixed false) = vdd
sink_gate pins (Fixed true) = vss
sink_gate pins (OfLeaf leaf plus) = cond plus (complement_net leaf) (own_net pins leaf)
sink_gate pins (OfDynamic k) = dynamic_net k
sink_gate pins (OfOutput k) = output_net k

abbrev pub named_sink : List (List ℕ) → List ℕ × SinkEnd → List (NamedDevice (List ℕ))
named_sink pins p = inverter vdd vss (sink_gate pins p.1) p.0

-- the nets of the sinks: the outputs, and the data of each of so many latches
abbrev pub sink_nets : List (List ℕ) → List Bool → List (List ℕ)
sink_nets outs starts = outs ++ map (λ p. data_net p.0) (enumerate_from 0 starts)

-- the cards of a deck, in order: domino cells, inverters of complements, latches, inverters of sinks
abbrev pub named_devices : Style → List (List ℕ) → List (List ℕ) → List Bool → List CellPlan → List ℕ → List SinkEnd → List (NamedDevice (List ℕ))
named_devices style pins outs starts cells complements ends =
    flat_map (named_cell style pins (length pins + length starts)) (enumerate_from 0 cells)
    ++ flat_map (named_complement pins) complements
    ++ flat_map named_latch (enumerate_from 0 starts)
    ++ flat_map (named_sink pins) (zip (sink_nets outs starts) ends)
