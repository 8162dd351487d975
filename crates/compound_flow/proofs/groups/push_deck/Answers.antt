use Rattle.std.proofs.Common.{[], ◌+◌, ◌*◌, ◌∙◌, ap, arith, length, map, subst, sym}
use Rattle.std.proofs.lemmas.List.{length-map}
use Rattle.std.proofs.lemmas.List.Elements.{recursion_from_All}
use Rattle.deck.specs.NamedDevices.{with_devices}
use Rattle.deck.specs.Nets.{net_name}
use Rattle.deck.specs.Ports.{IsPin}
use Rattle.network.specs.declared.network.NetLatch.{NetLatch}
use Rattle.deck_form.specs.DeckNets.{complement_net, own_net}
use Rattle.synth_flow.specs.BareDecks.{IsBareDeck, gate_nets}
use Rattle.synth_flow.specs.MadeDecks.{HasRoomForInverters, IsBeforeLatch, inverters}
use Rattle.synth_flow.specs.SinkParts.{end_in}
use Rattle.synth_flow.proofs.PushedDecks.{complements_have_room, latches_have_room}
use Rattle.compound_flow.specs.MadeCells.{plain_cells}
use Rattle.compound_flow.specs.MadeDecks.{compound_devices}
use Rattle.compound_flow.proofs.CellNames.{cells_have_names}
use Rattle.compound_flow.proofs.DeckGroups.{deck_made, few_first, first, first_ends, gates_before, sinks_count, sinks_fit}
use Rattle.compound_flow.proofs.groups.push_deck.Goals as goal

pub push_complements-requires-clause-nets : goal.push_complements-requires-clause-nets
push_complements-requires-clause-nets c =
    let pins = c.args.pins.now in
    let plans = c.args.plans.now in
    let starts = map (λ (l : NetLatch). l.init) c.args.latches.now in
    let count = length-map c.args.latches.now (λ (l : NetLatch). l.init) in
    let bare = subst (λ n. IsBareDeck c.args.circuit.now n pins c.args.sinks.now []) (sym count) c.requires.bare in
    let lc = length pins + length c.args.latches.now in
    let pins_are = recursion_from_All IsPin pins bare.pins_are in
    let fit = complements_have_room c.args.circuit.now pins c.args.sinks.now starts [] lc bare c.whole.ensures.whole.numbered c.requires.few
    (first pins lc c.requires.few pins_are plans c.requires.plans) (first_ends pins lc c.requires.few pins_are plans c.requires.plans)
    (few_first pins lc c.requires.few pins_are plans c.requires.plans) c.requires.complements.0 c.push_deck_cells.new.circuit c.in_ok-push_deck_cells.ensures in
    subst (λ l. HasRoomForInverters c.push_deck_cells.new.circuit (map complement_net l)) (sym c.requires.complements.1) fit.0

pub push_complements-requires-clause-room : goal.push_complements-requires-clause-room
push_complements-requires-clause-room c =
    let pins = c.args.pins.now in
    let plans = c.args.plans.now in
    let starts = map (λ (l : NetLatch). l.init) c.args.latches.now in
    let count = length-map c.args.latches.now (λ (l : NetLatch). l.init) in
    let bare = subst (λ n. IsBareDeck c.args.circuit.now n pins c.args.sinks.now []) (sym count) c.requires.bare in
    let lc = length pins + length c.args.latches.now in
    let pins_are = recursion_from_All IsPin pins bare.pins_are in
    let fit = (complements_have_room c.args.circuit.now pins c.args.sinks.now starts [] lc bare c.whole.ensures.whole.numbered c.requires.few
    (first pins lc c.requires.few pins_are plans c.requires.plans) (first_ends pins lc c.requires.few pins_are plans c.requires.plans)
    (few_first pins lc c.requires.few pins_are plans c.requires.plans) c.requires.complements.0 c.push_deck_cells.new.circuit c.in_ok-push_deck_cells.ensures).1 in
    omega (arith, fit, ap length c.requires.complements.1)

pub push_latches-requires-clause-nets : goal.push_latches-requires-clause-nets
push_latches-requires-clause-nets c =
    let pins = c.args.pins.now in
    let plans = c.args.plans.now in
    let starts = map (λ (l : NetLatch). l.init) c.args.latches.now in
    let count = length-map c.args.latches.now (λ (l : NetLatch). l.init) in
    let bare = subst (λ n. IsBareDeck c.args.circuit.now n pins c.args.sinks.now []) (sym count) c.requires.bare in
    let lc = length pins + length c.args.latches.now in
    let pins_are = recursion_from_All IsPin pins bare.pins_are in
    let names = gate_nets pins lc (2 * lc + length plans) in
    let two = c.in_ok-push_complements.ensures
    ∙ ap (λ l. with_devices c.push_deck_cells.new.circuit (inverters (map (own_net pins) l) (map complement_net l))) c.requires.complements.1 in
    (latches_have_room c.args.circuit.now pins c.args.sinks.now starts [] lc bare c.whole.ensures.whole.numbered c.requires.few
    (first pins lc c.requires.few pins_are plans c.requires.plans) (first_ends pins lc c.requires.few pins_are plans c.requires.plans)
    (few_first pins lc c.requires.few pins_are plans c.requires.plans) c.requires.complements.0
    (λ h ck. cells_have_names (IsBeforeLatch 0) h ck (net_name names) 0 (plain_cells plans) (gates_before pins lc c.requires.few pins_are plans c.requires.plans))
    c.push_deck_cells.new.circuit c.push_complements.new.circuit c.in_ok-push_deck_cells.ensures two (omega (arith, count, c.requires.few_latches))).0

pub push_latches-requires-clause-room : goal.push_latches-requires-clause-room
push_latches-requires-clause-room c =
    let pins = c.args.pins.now in
    let plans = c.args.plans.now in
    let starts = map (λ (l : NetLatch). l.init) c.args.latches.now in
    let count = length-map c.args.latches.now (λ (l : NetLatch). l.init) in
    let bare = subst (λ n. IsBareDeck c.args.circuit.now n pins c.args.sinks.now []) (sym count) c.requires.bare in
    let lc = length pins + length c.args.latches.now in
    let pins_are = recursion_from_All IsPin pins bare.pins_are in
    let names = gate_nets pins lc (2 * lc + length plans) in
    let two = c.in_ok-push_complements.ensures
    ∙ ap (λ l. with_devices c.push_deck_cells.new.circuit (inverters (map (own_net pins) l) (map complement_net l))) c.requires.complements.1 in
    let fit = (latches_have_room c.args.circuit.now pins c.args.sinks.now starts [] lc bare c.whole.ensures.whole.numbered c.requires.few
    (first pins lc c.requires.few pins_are plans c.requires.plans) (first_ends pins lc c.requires.few pins_are plans c.requires.plans)
    (few_first pins lc c.requires.few pins_are plans c.requires.plans) c.requires.complements.0
    (λ h ck. cells_have_names (IsBeforeLatch 0) h ck (net_name names) 0 (plain_cells plans) (gates_before pins lc c.requires.few pins_are plans c.requires.plans))
    c.push_deck_cells.new.circuit c.push_complements.new.circuit c.in_ok-push_deck_cells.ensures two (omega (arith, count, c.requires.few_latches))).1 in
    omega (arith, fit, count)

pub push_sinks-requires-clause-nets : goal.push_sinks-requires-clause-nets
push_sinks-requires-clause-nets c =
    let pins = c.args.pins.now in
    let plans = c.args.plans.now in
    let starts = map (λ (l : NetLatch). l.init) c.args.latches.now in
    let count = length-map c.args.latches.now (λ (l : NetLatch). l.init) in
    let bare = subst (λ n. IsBareDeck c.args.circuit.now n pins c.args.sinks.now []) (sym count) c.requires.bare in
    let lc = length pins + length c.args.latches.now in
    let two = c.in_ok-push_complements.ensures
    ∙ ap (λ l. with_devices c.push_deck_cells.new.circuit (inverters (map (own_net pins) l) (map complement_net l))) c.requires.complements.1 in
    sinks_fit c.args.circuit.now pins c.args.sinks.now starts plans lc (ap (λ n. length pins + n) count) bare c.whole.ensures.whole.numbered c.requires.plans c.requires.few
    c.requires.complements.0 c.push_deck_cells.new.circuit c.push_complements.new.circuit c.push_latches.new.circuit c.in_ok-push_deck_cells.ensures two
    c.in_ok-push_latches.ensures (omega (arith, count, c.requires.few_latches)) c.requires.sinks c.whole-2.ensures.whole.numbered

pub push_sinks-requires-clause-room : goal.push_sinks-requires-clause-room
push_sinks-requires-clause-room c =
    let pins = c.args.pins.now in
    let plans = c.args.plans.now in
    let starts = map (λ (l : NetLatch). l.init) c.args.latches.now in
    let count = length-map c.args.latches.now (λ (l : NetLatch). l.init) in
    let bare = subst (λ n. IsBareDeck c.args.circuit.now n pins c.args.sinks.now []) (sym count) c.requires.bare in
    let lc = length pins + length c.args.latches.now in
    let two = c.in_ok-push_complements.ensures
    ∙ ap (λ l. with_devices c.push_deck_cells.new.circuit (inverters (map (own_net pins) l) (map complement_net l))) c.requires.complements.1 in
    sinks_count c.args.circuit.now pins c.args.sinks.now starts plans lc (ap (λ n. length pins + n) count) bare c.whole.ensures.whole.numbered c.requires.plans c.requires.few
    c.requires.complements.0 c.push_deck_cells.new.circuit c.push_complements.new.circuit c.push_latches.new.circuit c.in_ok-push_deck_cells.ensures two
    c.in_ok-push_latches.ensures (omega (arith, count, c.requires.few_latches)) c.requires.few_sinks

pub returns : goal.returns
returns c =
    let pins = c.args.pins.now in
    let plans = c.args.plans.now in
    let starts = map (λ (l : NetLatch). l.init) c.args.latches.now in
    let count = length-map c.args.latches.now (λ (l : NetLatch). l.init) in
    let bare = subst (λ n. IsBareDeck c.args.circuit.now n pins c.args.sinks.now []) (sym count) c.requires.bare in
    let lc = length pins + length c.args.latches.now in
    let ends = map (end_in c.args.cells.now) c.args.ends.now in
    let named = c.requires.complements.1 in
    let two = c.in_ok-push_complements.ensures ∙ ap (λ l. with_devices c.push_deck_cells.new.circuit (inverters (map (own_net pins) l) (map complement_net l))) named in
    deck_made c.args.circuit.now pins c.args.sinks.now starts plans lc (ap (λ n. length pins + n) count) bare c.whole.ensures.whole.numbered c.requires.plans c.requires.few
    c.requires.complements.0 c.push_deck_cells.new.circuit c.push_complements.new.circuit c.push_latches.new.circuit c.push_sinks.new.circuit ends c.in_ok-push_deck_cells.ensures two
    c.in_ok-push_latches.ensures c.in_ok-push_sinks.ensures
    ∙ ap (λ l. with_devices c.args.circuit.now (compound_devices pins c.args.sinks.now starts (plain_cells plans) l ends)) (sym named)
