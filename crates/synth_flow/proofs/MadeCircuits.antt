-- The circuit that the code makes of a network is its deck.
use Rattle.domino_cell.specs.declared.style.Style.{Style}
use Rattle.std.proofs.Common.{◌≡◌, ℕ, ◌+◌, ◌*◌, ◌<◌, Bool, List, [], ◌∷◌, ◌++◌, length, map, zip, filter, refl, sym, ap, ap₂, ◌∙◌, subst, arith, Some, slice_get}
use Rattle.std.specs.Prelude.{codes, slice_index_or}
use Rattle.std.specs.List.{AllByRecursion, range_with_len}
use Rattle.std.proofs.lemmas.List.{length-map}
use Rattle.std.proofs.lemmas.List.FromFn.{get_or-map-range_with_len, length-map-range_with_len}
use Rattle.dom_base.proofs.Lists.{head_same, tail_same}
use Rattle.deck.specs.Escapes.{escaped}
use Rattle.deck.specs.NamedDevices.{with_devices}
use Rattle.deck.specs.Pushes.{new_circuit}
use Rattle.dual_rail.specs.declared.forest.End.{End}
use Rattle.dual_rail.specs.declared.forest.End.TheVariants.{Const, Literal, FromDynamic, FromOutput}
use Rattle.sp_network.specs.Tree.{Tree, EachLeaf}
use Rattle.sp_network.specs.TypedTree.{tree_of}
use Rattle.sp_network.specs.declared.plan.GatePlan.{GatePlan}
use Rattle.gate_decompose.specs.Sinks.{leaf_count}
use Rattle.network.specs.NetworkData.{NetworkData}
use Rattle.network.specs.declared.network.NetLatch.{NetLatch}
use Rattle.tree_map.specs.MappedCover.{plan_trees}
use Rattle.tree_map.specs.Plans.{cell_of}
use Rattle.synth_flow.specs.BareDecks.{cell_plan, made_devices, named_leaves}
use Rattle.deck_form.specs.ChosenDecks.{end_at_cell}
use Rattle.deck_form.specs.DeckNets.{OfDynamic, OfOutput, data_net, named_devices, sink_nets}
use Rattle.deck_form.specs.DominoDecks.{deck_circuit, outs_of, phases_of_sinks, pins_of, starts_of}
use Rattle.synth_flow.specs.MadeCircuits.{made_deck, sinks_of}
use Rattle.synth_flow.specs.MadeDecks.{port_net}
use Rattle.deck_form.specs.NamedDecks.{names_complement}
use Rattle.dual_rail.specs.Uses.{IsEndThere}
use Rattle.synth_flow.specs.SinkParts.{end_in, phase_of_sink}
use Rattle.synth_flow.proofs.MadeAsNamed.{data_rows, leaves_named, made_named}

-- each plan with the clock of its level
pub cells_same : (f : ℕ → ℕ) (plans : List GatePlan) (levels : List ℕ) → map (λ (p : GatePlan). p.clock) plans ≡ map f levels
    → map cell_plan plans ≡ map (λ (p : Tree ℕ × ℕ). record { tree = p.0; clock = f p.1 }) (zip (plan_trees plans) levels)
cells_same f [] [] e = refl
cells_same f [] (l ∷ levels) e = absurd (cc)
cells_same f (p ∷ plans) [] e = absurd (cc)
cells_same f (p ∷ plans) (l ∷ levels) e =
    let clock = head_same e in
    let rest = cells_same f plans levels (tail_same e) in
    λ i. record { tree = tree_of p.tree; clock = clock i } ∷ rest i

-- each end by the number of its cell
pub ends_same : (kept : List Bool) (ends : List End) → AllByRecursion (IsEndThere (length kept)) ends
    → map (end_in (map (cell_of kept) (range_with_len 0 (length kept)))) ends ≡ map (end_at_cell kept) ends
ends_same kept [] low = refl
ends_same kept (e ∷ ends) low = ap₂ (λ a l. a ∷ l) (one e low.0) (ends_same kept ends low.1)
  where
    number : (place : ℕ) → place < length kept → slice_index_or (map (cell_of kept) (range_with_len 0 (length kept))) place 0 ≡ cell_of kept place
    number place lt = get_or-map-range_with_len (cell_of kept) 0 (length kept) place place 0 lt (omega arith)

    one : (x : End) → IsEndThere (length kept) x → end_in (map (cell_of kept) (range_with_len 0 (length kept))) x ≡ end_at_cell kept x
    one (Const b) h = refl
    one (Literal rail) h = refl
    one (FromDynamic place) h = ap OfDynamic (number place h)
    one (FromOutput place) h = ap OfOutput (number place h)

-- the circuit is that of these plans, signs and ends, whatever the clocks of the plans are
pub made_is_circuit : (style : Style) (network : NetworkData) (phases : ℕ) (signs : List Bool) (plans : List GatePlan) (ends : List End) (numbers : List ℕ)
    → ((k : ℕ) (p : GatePlan) → slice_get plans k ≡ Some p → EachLeaf (λ gate. gate < 2 * leaf_count network + k) (tree_of p.tree))
    → made_deck style network phases signs plans ends numbers ≡ deck_circuit style network phases (map cell_plan plans) signs (map (end_in numbers) ends)
made_is_circuit style network phases signs plans ends numbers earlier =
    let pins = pins_of network in
    let outs = outs_of network in
    let starts = starts_of network in
    let count : length starts ≡ length network.latches = length-map network.latches (λ (l : NetLatch). l.init) in
    let pins_count : length pins ≡ network.inputs = length-map-range_with_len (port_net (codes "i_") network.names) 0 network.inputs in
    let lc : length pins + length starts ≡ leaf_count network = ap₂ (λ m n. m + n) pins_count count in
    let sinks : sinks_of network ≡ outs ++ map data_net (range_with_len 0 (length starts)) = ap (λ n. outs ++ map data_net (range_with_len 0 n)) (sym count) in
    let nets : sinks_of network ≡ sink_nets outs starts = sinks ∙ ap (λ l. outs ++ l) (data_rows 0 starts) in
    let reads = subst (λ n. (k : ℕ) (p : GatePlan) → slice_get plans k ≡ Some p → EachLeaf (λ gate. gate < 2 * n + k) (tree_of p.tree)) (sym lc) earlier in
    let named = made_named style pins outs starts plans ends numbers reads in
    let leaves : named_leaves plans ends (length pins + length starts) ≡ filter (names_complement (map cell_plan plans) (map (end_in numbers) ends)) (range_with_len 0 (leaf_count network))
    = ap (named_leaves plans ends) lc ∙ leaves_named plans ends numbers (leaf_count network) in
    (λ i. with_devices (new_circuit (escaped network.name) (map phase_of_sink (zip (nets i) signs)) phases pins outs) (made_devices style pins (sinks i) starts plans ends numbers))
    ∙ (λ i. with_devices (new_circuit (escaped network.name) (phases_of_sinks network signs) phases pins outs) (named i))
    ∙ (λ i. with_devices (new_circuit (escaped network.name) (phases_of_sinks network signs) phases pins outs) (named_devices style pins outs starts (map cell_plan plans) (leaves i) (map (end_in numbers) ends)))
