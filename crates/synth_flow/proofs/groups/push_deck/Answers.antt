use Rattle.std.proofs.Common.{◌+◌, length, map, ap, arith, subst, sym, ◌∙◌}
use Rattle.std.proofs.lemmas.List.{length-map}
use Rattle.deck.specs.NamedDevices.{with_devices}
use Rattle.network.specs.declared.network.NetLatch.{NetLatch}
use Rattle.synth_flow.specs.BareDecks.{IsBareDeck}
use Rattle.deck_form.specs.DeckNets.{complement_net, own_net}
use Rattle.synth_flow.specs.MadeDecks.{HasRoomForInverters, inverters}
use Rattle.synth_flow.proofs.PushedDecks.{complements_fit, deck_made, latches_fit, sinks_fit}
use Rattle.synth_flow.proofs.groups.push_deck.Goals as goal

pub push_complements-requires-clause-nets : goal.push_complements-requires-clause-nets
push_complements-requires-clause-nets c =
    let starts = map (λ (l : NetLatch). l.init) c.args.latches.now in
    let count = length-map c.args.latches.now (λ (l : NetLatch). l.init) in
    let bare = subst (λ n. IsBareDeck c.args.circuit.now n c.args.pins.now c.args.sinks.now c.args.plans.now) (sym count) c.requires.bare in
    let lc = length c.args.pins.now + length c.args.latches.now in
    let same = ap (λ n. length c.args.pins.now + n) count in
    let fit = complements_fit c.args.style c.args.circuit.now c.args.pins.now c.args.sinks.now starts c.args.plans.now c.args.ends.now lc same bare c.whole.ensures.whole.numbered c.requires.plans c.requires.few c.push_deck_cells.new.circuit c.in_ok-push_deck_cells.ensures in
    subst (λ l. HasRoomForInverters c.push_deck_cells.new.circuit (map complement_net l)) (sym (c.as_slice.ensures.value ∙ c.in_ok-named.ensures)) fit.0

pub push_complements-requires-clause-room : goal.push_complements-requires-clause-room
push_complements-requires-clause-room c =
    let starts = map (λ (l : NetLatch). l.init) c.args.latches.now in
    let count = length-map c.args.latches.now (λ (l : NetLatch). l.init) in
    let bare = subst (λ n. IsBareDeck c.args.circuit.now n c.args.pins.now c.args.sinks.now c.args.plans.now) (sym count) c.requires.bare in
    let lc = length c.args.pins.now + length c.args.latches.now in
    let same = ap (λ n. length c.args.pins.now + n) count in
    let fit = (complements_fit c.args.style c.args.circuit.now c.args.pins.now c.args.sinks.now starts c.args.plans.now c.args.ends.now lc same bare c.whole.ensures.whole.numbered c.requires.plans c.requires.few c.push_deck_cells.new.circuit c.in_ok-push_deck_cells.ensures).1 in
    omega (arith, fit, ap length (c.as_slice.ensures.value ∙ c.in_ok-named.ensures))

pub push_latches-requires-clause-nets : goal.push_latches-requires-clause-nets
push_latches-requires-clause-nets c =
    let starts = map (λ (l : NetLatch). l.init) c.args.latches.now in
    let count = length-map c.args.latches.now (λ (l : NetLatch). l.init) in
    let bare = subst (λ n. IsBareDeck c.args.circuit.now n c.args.pins.now c.args.sinks.now c.args.plans.now) (sym count) c.requires.bare in
    let lc = length c.args.pins.now + length c.args.latches.now in
    let same = ap (λ n. length c.args.pins.now + n) count in
    let named = c.as_slice.ensures.value ∙ c.in_ok-named.ensures in
    let two = c.in_ok-push_complements.ensures ∙ ap (λ l. with_devices c.push_deck_cells.new.circuit (inverters (map (own_net c.args.pins.now) l) (map complement_net l))) named in
    (latches_fit c.args.style c.args.circuit.now c.args.pins.now c.args.sinks.now starts c.args.plans.now c.args.ends.now lc same bare c.whole.ensures.whole.numbered c.requires.plans c.requires.few c.push_deck_cells.new.circuit c.push_complements.new.circuit c.in_ok-push_deck_cells.ensures two (omega (arith, count, c.requires.few_latches))).0

pub push_latches-requires-clause-room : goal.push_latches-requires-clause-room
push_latches-requires-clause-room c =
    let starts = map (λ (l : NetLatch). l.init) c.args.latches.now in
    let count = length-map c.args.latches.now (λ (l : NetLatch). l.init) in
    let bare = subst (λ n. IsBareDeck c.args.circuit.now n c.args.pins.now c.args.sinks.now c.args.plans.now) (sym count) c.requires.bare in
    let lc = length c.args.pins.now + length c.args.latches.now in
    let same = ap (λ n. length c.args.pins.now + n) count in
    let named = c.as_slice.ensures.value ∙ c.in_ok-named.ensures in
    let two = c.in_ok-push_complements.ensures ∙ ap (λ l. with_devices c.push_deck_cells.new.circuit (inverters (map (own_net c.args.pins.now) l) (map complement_net l))) named in
    let fit = (latches_fit c.args.style c.args.circuit.now c.args.pins.now c.args.sinks.now starts c.args.plans.now c.args.ends.now lc same bare c.whole.ensures.whole.numbered c.requires.plans c.requires.few c.push_deck_cells.new.circuit c.push_complements.new.circuit c.in_ok-push_deck_cells.ensures two (omega (arith, count, c.requires.few_latches))).1 in
    omega (arith, fit, count)

pub push_inverters-requires-clause-nets : goal.push_inverters-requires-clause-nets
push_inverters-requires-clause-nets c =
    let starts = map (λ (l : NetLatch). l.init) c.args.latches.now in
    let count = length-map c.args.latches.now (λ (l : NetLatch). l.init) in
    let bare = subst (λ n. IsBareDeck c.args.circuit.now n c.args.pins.now c.args.sinks.now c.args.plans.now) (sym count) c.requires.bare in
    let lc = length c.args.pins.now + length c.args.latches.now in
    let same = ap (λ n. length c.args.pins.now + n) count in
    let named = c.as_slice.ensures.value ∙ c.in_ok-named.ensures in
    let two = c.in_ok-push_complements.ensures ∙ ap (λ l. with_devices c.push_deck_cells.new.circuit (inverters (map (own_net c.args.pins.now) l) (map complement_net l))) named in
    (sinks_fit c.args.style c.args.circuit.now c.args.pins.now c.args.sinks.now starts c.args.plans.now c.args.ends.now lc same bare c.whole.ensures.whole.numbered c.requires.plans c.requires.few c.push_deck_cells.new.circuit c.push_complements.new.circuit c.push_latches.new.circuit c.in_ok-push_deck_cells.ensures two c.in_ok-push_latches.ensures (omega (arith, count, c.requires.few_latches)) c.requires.few_sinks).0

pub push_inverters-requires-clause-room : goal.push_inverters-requires-clause-room
push_inverters-requires-clause-room c =
    let starts = map (λ (l : NetLatch). l.init) c.args.latches.now in
    let count = length-map c.args.latches.now (λ (l : NetLatch). l.init) in
    let bare = subst (λ n. IsBareDeck c.args.circuit.now n c.args.pins.now c.args.sinks.now c.args.plans.now) (sym count) c.requires.bare in
    let lc = length c.args.pins.now + length c.args.latches.now in
    let same = ap (λ n. length c.args.pins.now + n) count in
    let named = c.as_slice.ensures.value ∙ c.in_ok-named.ensures in
    let two = c.in_ok-push_complements.ensures ∙ ap (λ l. with_devices c.push_deck_cells.new.circuit (inverters (map (own_net c.args.pins.now) l) (map complement_net l))) named in
    (sinks_fit c.args.style c.args.circuit.now c.args.pins.now c.args.sinks.now starts c.args.plans.now c.args.ends.now lc same bare c.whole.ensures.whole.numbered c.requires.plans c.requires.few c.push_deck_cells.new.circuit c.push_complements.new.circuit c.push_latches.new.circuit c.in_ok-push_deck_cells.ensures two c.in_ok-push_latches.ensures (omega (arith, count, c.requires.few_latches)) c.requires.few_sinks).1

pub returns : goal.returns
returns c =
    let starts = map (λ (l : NetLatch). l.init) c.args.latches.now in
    let count = length-map c.args.latches.now (λ (l : NetLatch). l.init) in
    let bare = subst (λ n. IsBareDeck c.args.circuit.now n c.args.pins.now c.args.sinks.now c.args.plans.now) (sym count) c.requires.bare in
    let lc = length c.args.pins.now + length c.args.latches.now in
    let same = ap (λ n. length c.args.pins.now + n) count in
    let named = c.as_slice.ensures.value ∙ c.in_ok-named.ensures in
    let two = c.in_ok-push_complements.ensures ∙ ap (λ l. with_devices c.push_deck_cells.new.circuit (inverters (map (own_net c.args.pins.now) l) (map complement_net l))) named in
    let four = c.in_ok-push_inverters.ensures ∙ ap (λ l. with_devices c.push_latches.new.circuit (inverters l c.args.sinks.now)) (c.as_slice-2.ensures.value ∙ c.in_ok-gates.ensures) in
    deck_made c.args.style c.args.circuit.now c.args.pins.now c.args.sinks.now starts c.args.plans.now c.args.ends.now lc same bare c.whole.ensures.whole.numbered c.requires.plans c.requires.few c.push_deck_cells.new.circuit c.push_complements.new.circuit c.push_latches.new.circuit c.push_inverters.new.circuit c.args.cells.now c.in_ok-push_deck_cells.ensures two c.in_ok-push_latches.ensures four
