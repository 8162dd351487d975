use Rattle.std.proofs.Common.{◌≡◌, ◌+◌, List, length, map, ap, ap₂, arith, subst, sym, ◌∙◌}
use Rattle.std.specs.List.{zip}
use Rattle.deck.specs.NamedDevices.{with_devices}
use Rattle.deck.specs.Escapes.{escaped}
use Rattle.deck.specs.Pushes.{new_circuit}
use Rattle.network.specs.declared.network.NetLatch.{NetLatch}
use Rattle.network.specs.NetworkData.{NetworkData}
use Rattle.network.specs.Networks.{IsNetwork}
use Rattle.synth_flow.specs.BareDecks.{ArePlans, IsBareDeck, made_devices}
use Rattle.deck_form.specs.DominoDecks.{outs_of, pins_of}
use Rattle.synth_flow.specs.MadeCircuits.{sinks_of}
use Rattle.synth_flow.specs.SinkParts.{phase_of_sink}
use Rattle.synth_flow.proofs.NetworkDecks.{few_leaves, few_sinks, is_bare, pins_count, sinks_count}
use Rattle.synth_flow.proofs.bare.deck_of.Goals as goal

pub push_deck-requires-clause-bare : goal.push_deck-requires-clause-bare
push_deck-requires-clause-bare c =
    let same = c.network.view_is in
    let network = c.args.network.now in
    let is = subst IsNetwork same c.network.invariant in
    let deck = c.in_ok-circuit.ensures in
    let made = c.in_ok-circuit.field-0.circuit in
    let phases = map phase_of_sink (zip (sinks_of network) c.args.signs.now) in
    let of =
    is_bare network is deck.names made (escaped network.name) phases c.args.clocks c.args.plans.now deck.circuit c.requires.few_clocks c.requires.clocks_are in
    let count = ap length (c.as_slice-3.ensures.value ∙ ap (λ (n : NetworkData). n.latches) same) in
    let some_pins = c.as_slice.ensures.value ∙ deck.pins in
    let some_sinks = c.as_slice-2.ensures.value ∙ deck.sinks in
    subst (λ n. IsBareDeck made n c.as_slice.result.now c.as_slice-2.result.now c.args.plans.now) (sym count)
    (subst (λ l. IsBareDeck made (length network.latches) l c.as_slice-2.result.now c.args.plans.now) (sym some_pins)
    (subst (λ l. IsBareDeck made (length network.latches) (pins_of network) l c.args.plans.now) (sym some_sinks) of))

pub push_deck-requires-clause-few : goal.push_deck-requires-clause-few
push_deck-requires-clause-few c =
    let same = c.network.view_is in
    let network = c.args.network.now in
    let is = subst IsNetwork same c.network.invariant in
    let pins = ap length (c.as_slice.ensures.value ∙ c.in_ok-circuit.ensures.pins) in
    omega (arith, pins, pins_count network is, ap length (c.as_slice-3.ensures.value ∙ ap (λ (n : NetworkData). n.latches) same), few_leaves network is)

pub push_deck-requires-clause-few_sinks : goal.push_deck-requires-clause-few_sinks
push_deck-requires-clause-few_sinks c =
    let network = c.args.network.now in
    let is = subst IsNetwork c.network.view_is c.network.invariant in
    omega (arith, ap length (c.as_slice-2.ensures.value ∙ c.in_ok-circuit.ensures.sinks), sinks_count network is, few_sinks network is)

pub push_deck-requires-clause-plans : goal.push_deck-requires-clause-plans
push_deck-requires-clause-plans c =
    let same = c.network.view_is in
    let network = c.args.network.now in
    let is = subst IsNetwork same c.network.invariant in
    let pins = ap length (c.as_slice.ensures.value ∙ c.in_ok-circuit.ensures.pins) ∙ pins_count network is in
    let latches = ap length (c.as_slice-3.ensures.value ∙ ap (λ (n : NetworkData). n.latches) same) in
    subst (λ n. ArePlans c.args.style n c.args.plans.now) (sym (ap₂ (λ m n. m + n) pins latches)) c.requires.plans

pub push_deck-requires-clause-one_end : goal.push_deck-requires-clause-one_end
push_deck-requires-clause-one_end c =
    let network = c.args.network.now in
    let is = subst IsNetwork c.network.view_is c.network.invariant in
    c.requires.one_end ∙ sym (ap length (c.as_slice-2.ensures.value ∙ c.in_ok-circuit.ensures.sinks) ∙ sinks_count network is)

pub returns : goal.returns
returns c =
    let same = c.network.view_is in
    let network = c.args.network.now in
    let phases = map phase_of_sink (zip (sinks_of network) c.args.signs.now) in
    let deck = c.in_ok-circuit.ensures in
    let starts = λ (l : List NetLatch). map (λ (x : NetLatch). x.init) l in
    let some_pins = c.as_slice.ensures.value ∙ deck.pins in
    let some_sinks = c.as_slice-2.ensures.value ∙ deck.sinks in
    let some_latches = c.as_slice-3.ensures.value ∙ ap (λ (n : NetworkData). n.latches) same in
    c.in_ok-push_deck.ensures
    ∙ ap (λ d. with_devices d (made_devices c.args.style c.as_slice.result.now c.as_slice-2.result.now (starts c.as_slice-3.result.now) c.args.plans.now c.args.ends.now c.args.cells.now)) deck.circuit
    ∙ (λ i. with_devices (new_circuit (escaped network.name) phases c.args.clocks (pins_of network) (outs_of network))
    (made_devices c.args.style (some_pins i) (some_sinks i) (starts (some_latches i)) c.args.plans.now c.args.ends.now c.args.cells.now))
