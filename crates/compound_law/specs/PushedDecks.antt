-- The cards of a deck of simple and compound cells by the names of its nets, cell by cell: what is appended to a circuit (Rabaey, Digital
-- Integrated Circuits: compound domino).
use Rattle.std.specs.Prelude.{Bool, List, None, Option, Some, flat_map, length, slice_get, ℕ, ◌++◌, ◌+◌, ◌≡◌}
use Rattle.std.specs.List.{enumerate_from, zip}
use Rattle.deck.specs.NamedDevices.{NamedDevice, with_devices}
use Rattle.deck.specs.Escapes.{escaped}
use Rattle.deck.specs.Pushes.{new_circuit}
use Rattle.sp_network.specs.Tree.{Leaf, Tree}
use Rattle.network.specs.NetworkData.{NetworkData}
use Rattle.domino_cell.specs.PushedNames.{static_gate}
use Rattle.compound_plan.specs.Plans.{CellTrees}
use Rattle.compound_cell.specs.CompoundCells.{dynamic_names, named_cell}
use Rattle.deck_form.specs.DeckNets.{SinkEnd, OfDynamic, dynamic_net, named_complement, named_gate, named_latch, sink_gate, sink_nets}
use Rattle.deck_form.specs.DominoDecks.{complements_of, outs_of, phases_of_sinks, pins_of, starts_of}
use Rattle.compound_law.specs.CompoundDecks.{clocked, deck_circuit, whole_cells}

-- the nets that the static gate of a sink consists of
abbrev pub cell_names : ℕ → Option (CellTrees × ℕ) → Tree (List ℕ)
cell_names k None = Leaf (dynamic_net k)
cell_names k (Some p) = dynamic_names k p.0

abbrev pub sink_tree : List (List ℕ) → List (CellTrees × ℕ) → SinkEnd → Tree (List ℕ)
sink_tree pins cells (OfDynamic k) = cell_names k (slice_get cells k)
sink_tree pins cells end = Leaf (sink_gate pins end)

-- the cards of a deck, in order: cells, inverters of complements, latches, static gates of sinks
abbrev pub named_devices : List (List ℕ) → List (List ℕ) → List Bool → List (CellTrees × ℕ) → List ℕ → List SinkEnd
    → List (NamedDevice (List ℕ))
named_devices pins outs starts cells complements ends =
    flat_map (λ p. named_cell (named_gate pins (length pins + length starts)) p.1.1 p.0 p.1.0) (enumerate_from 0 cells)
    ++ flat_map (named_complement pins) complements
    ++ flat_map named_latch (enumerate_from 0 starts)
    ++ flat_map (λ p. static_gate p.0 (sink_tree pins cells p.1)) (zip (sink_nets outs starts) ends)

-- the circuit of a deck is the one that these cards make, appended in order
abbrev pub DecksArePushed : Type 0
DecksArePushed =
    (network : NetworkData) (phases : ℕ) (cells : List CellTrees) (levels : List ℕ) (signs : List Bool) (ends : List SinkEnd)
    → length ends ≡ length (outs_of network) + length (starts_of network)
    → deck_circuit network phases cells levels signs ends
    ≡ with_devices (new_circuit (escaped network.name) (phases_of_sinks network signs) phases (pins_of network) (outs_of network))
    (named_devices (pins_of network) (outs_of network) (starts_of network) (clocked phases levels cells)
    (complements_of network (whole_cells phases levels cells) ends) ends)
