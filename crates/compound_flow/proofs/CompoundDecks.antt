-- The circuit that the code makes of a network is its deck with compound cells.
use Rattle.std.specs.Prelude.{flat_map}
use Rattle.std.specs.List.{AllByRecursion, range_with_len}
use Rattle.std.proofs.Common.{◌≡◌, ℕ, ◌+◌, ◌*◌, Bool, List, [], ◌∷◌, ◌++◌, ◌∙◌, ap, ap₂, length, map, refl, sym, zip}
use Rattle.std.proofs.lemmas.List.{length-map}
use Rattle.deck.specs.Escapes.{escaped}
use Rattle.deck.specs.NamedDevices.{with_devices}
use Rattle.deck.specs.Nets.{net_name}
use Rattle.deck.specs.Pushes.{new_circuit}
use Rattle.network.specs.NetworkData.{NetworkData}
use Rattle.network.specs.declared.network.NetLatch.{NetLatch}
use Rattle.sp_network.specs.Tree.{EachLeaf}
use Rattle.domino_cell.specs.PushedNames.{numbered_cell, static_gate}
use Rattle.domino_cell.specs.StyledCells.{styled_stage}
use Rattle.domino_cell.specs.declared.style.Style.TheVariants.{Precharge as WithPrecharge}
use Rattle.compound_plan.specs.Plans.{CellTrees, Compound, Simple}
use Rattle.compound_cell.specs.CompoundCells.{named_cell, output_gate, right_cell, whole_tree}
use Rattle.deck_form.specs.DeckNets.{SinkEnd, data_net, named_gate, sink_nets}
use Rattle.deck_form.specs.DominoDecks.{complements_of, outs_of, phases_of_sinks, pins_of, starts_of}
use Rattle.synth_flow.specs.BareDecks.{gate_nets}
use Rattle.synth_flow.specs.MadeCircuits.{sinks_of}
use Rattle.synth_flow.specs.MadeDecks.{latches_from}
use Rattle.synth_flow.specs.SinkParts.{phase_of_sink}
use Rattle.synth_flow.proofs.BareDecks.{same_tree}
use Rattle.synth_flow.proofs.MadeAsNamed.{complements_are, data_rows}
use Rattle.compound_law.specs.CompoundDecks.{clocked, deck_circuit, whole_cells}
use Rattle.compound_law.specs.PushedDecks.{named_devices, sink_tree}
use Rattle.compound_law.proofs.NamedCells.{decks_are_pushed}
use Rattle.compound_flow.specs.MadeCells.{named_cells}
use Rattle.compound_flow.specs.MadeDecks.{compound_circuit, compound_devices}

-- the gates of a cell have their nets
abbrev pub HasNets : List (List ℕ) → List (List ℕ) → ℕ → CellTrees × ℕ → Type 0
HasNets names pins lc cell = EachLeaf (λ gate. net_name names gate ≡ named_gate pins lc gate) (whole_tree cell.0)

cell_same : (names pins : List (List ℕ)) (lc clock k : ℕ) (c : CellTrees) → EachLeaf (λ gate. net_name names gate ≡ named_gate pins lc gate) (whole_tree c)
    → named_cell (net_name names) clock k c ≡ named_cell (named_gate pins lc) clock k c
cell_same names pins lc clock k (Simple t) h = ap (λ x. styled_stage WithPrecharge (numbered_cell clock k) x ++ output_gate k (Simple t)) (same_tree names pins lc t h)
cell_same names pins lc clock k (Compound l r) h =
    ap₂ (λ x y. styled_stage WithPrecharge (numbered_cell clock k) x ++ (styled_stage WithPrecharge (right_cell clock k) y ++ output_gate k (Compound l r)))
    (same_tree names pins lc l h.0) (same_tree names pins lc r h.1)

cells_same : (names pins : List (List ℕ)) (lc k : ℕ) (cells : List (CellTrees × ℕ)) → AllByRecursion (HasNets names pins lc) cells
    → named_cells (net_name names) k cells ≡ named_cells (named_gate pins lc) k cells
cells_same names pins lc k [] h = refl
cells_same names pins lc k (p ∷ cells) h = ap₂ (λ a b. a ++ b) (cell_same names pins lc p.1 k p.0 h.0) (cells_same names pins lc (k + 1) cells h.1)

-- the devices by the names of their nets
made_named : (pins outs : List (List ℕ)) (starts : List Bool) (cells : List (CellTrees × ℕ)) (complements : List ℕ) (ends : List SinkEnd)
    → AllByRecursion (HasNets (gate_nets pins (length pins + length starts) (2 * (length pins + length starts) + length cells)) pins (length pins + length starts)) cells
    → compound_devices pins (outs ++ map data_net (range_with_len 0 (length starts))) starts cells complements ends ≡ named_devices pins outs starts cells complements ends
made_named pins outs starts cells complements ends have =
    let lc : ℕ = length pins + length starts in
    let first = cells_same (gate_nets pins lc (2 * lc + length cells)) pins lc 0 cells have in
    let second = complements_are pins complements in
    let last = ap (λ l. flat_map (λ (p : List ℕ × SinkEnd). static_gate p.0 (sink_tree pins cells p.1)) (zip (outs ++ l) ends)) (data_rows 0 starts) in
    λ i. first i ++ second i ++ latches_from 0 starts ++ last i

-- the circuit is the network's deck with these trees, levels and ends
pub made_is_circuit : (network : NetworkData) (phases : ℕ) (signs : List Bool) (cells : List (CellTrees × ℕ)) (complements : List ℕ) (ends : List SinkEnd)
    (trees : List CellTrees) (levels : List ℕ) → length ends ≡ length (outs_of network) + length (starts_of network) → cells ≡ clocked phases levels trees
    → complements ≡ complements_of network (whole_cells phases levels trees) ends
    → AllByRecursion (HasNets (gate_nets (pins_of network) (length (pins_of network) + length (starts_of network))
    (2 * (length (pins_of network) + length (starts_of network)) + length cells)) (pins_of network) (length (pins_of network) + length (starts_of network))) cells
    → compound_circuit network phases signs cells complements ends ≡ deck_circuit network phases trees levels signs ends
made_is_circuit network phases signs cells complements ends trees levels fit cells_are complements_are have =
    let pins = pins_of network in
    let outs = outs_of network in
    let starts = starts_of network in
    let count : length starts ≡ length network.latches = length-map network.latches (λ (l : NetLatch). l.init) in
    let sinks : sinks_of network ≡ outs ++ map data_net (range_with_len 0 (length starts)) = ap (λ n. outs ++ map data_net (range_with_len 0 n)) (sym count) in
    let nets : sinks_of network ≡ sink_nets outs starts = sinks ∙ ap (λ l. outs ++ l) (data_rows 0 starts) in
    let named = made_named pins outs starts cells complements ends have in
    (λ i. with_devices (new_circuit (escaped network.name) (map phase_of_sink (zip (nets i) signs)) phases pins outs) (compound_devices pins (sinks i) starts cells complements ends))
    ∙ (λ i. with_devices (new_circuit (escaped network.name) (phases_of_sinks network signs) phases pins outs) (named i))
    ∙ (λ i. with_devices (new_circuit (escaped network.name) (phases_of_sinks network signs) phases pins outs) (named_devices pins outs starts (cells_are i) (complements_are i) ends))
    ∙ sym (decks_are_pushed network phases trees levels signs ends fit)
