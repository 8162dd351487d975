use Rattle.std.proofs.Common.{◌+◌, ◌≤◌, ℕ, List, [], ◌++◌, ◌∙◌, All, ap, ap₂, arith, filter, length, map, subst, sym}
use Rattle.std.specs.Prelude.{codes}
use Rattle.std.specs.Fmt.{decimal}
use Rattle.std.specs.List.{range_with_len, zip}
use Rattle.std.proofs.lemmas.List.Elements.{All-nil, All-weaker}
use Rattle.deck.specs.CircuitData.{CircuitData}
use Rattle.deck.specs.Escapes.{escaped}
use Rattle.deck.specs.NamedDevices.{with_devices}
use Rattle.deck.specs.Pushes.{new_circuit}
use Rattle.domino_cell.specs.PushedNames.{IsPort}
use Rattle.network.specs.NetworkData.{NetworkData}
use Rattle.network.specs.Networks.{IsNetwork}
use Rattle.network.specs.declared.network.NetLatch.{NetLatch}
use Rattle.sp_network.specs.declared.plan.GatePlan.{GatePlan}
use Rattle.compound_plan.specs.Plans.{CellTrees}
use Rattle.deck_form.specs.DominoDecks.{outs_of, pins_of}
use Rattle.synth_flow.specs.BareDecks.{IsBareDeck}
use Rattle.synth_flow.specs.MadeCircuits.{sinks_of}
use Rattle.synth_flow.specs.SinkParts.{end_in, phase_of_sink}
use Rattle.synth_flow.proofs.BareDecks.{is_clock}
use Rattle.synth_flow.proofs.NetworkDecks.{few_leaves, few_sinks, is_bare, pins_count, sinks_count}
use Rattle.compound_flow.specs.MadeCells.{AreCompoundPlans, HaveClocks, plain_cells}
use Rattle.compound_flow.specs.MadeDecks.{compound_devices}
use Rattle.compound_flow.specs.MadeSinks.{IsSinkName}
use Rattle.compound_flow.proofs.NetworkSinks.{sinks_are}
use Rattle.compound_flow.proofs.synthesis.deck_of.Goals as goal

pub push_deck-requires-clause-bare : goal.push_deck-requires-clause-bare
push_deck-requires-clause-bare c =
    let same = c.network.view_is in
    let network = c.args.network.now in
    let is = subst IsNetwork same c.network.invariant in
    let deck = c.in_ok-circuit.ensures in
    let made = c.in_ok-circuit.field-0.circuit in
    let phases = map phase_of_sink (zip (sinks_of network) c.args.signs.now) in
    let of =
    is_bare network is deck.names made (escaped network.name) phases c.args.phases [] deck.circuit c.requires.few_phases (All-nil (λ (p : GatePlan). (1 ≤ p.clock) × (p.clock ≤ c.args.phases))) in
    let count = ap length (c.as_slice-3.ensures.value ∙ ap (λ (n : NetworkData). n.latches) same) in
    let some_pins = c.as_slice.ensures.value ∙ deck.pins in
    let some_sinks = c.as_slice-2.ensures.value ∙ deck.sinks in
    subst (λ n. IsBareDeck made n c.as_slice.result.now c.as_slice-2.result.now []) (sym count)
    (subst (λ l. IsBareDeck made (length network.latches) l c.as_slice-2.result.now []) (sym some_pins)
    (subst (λ l. IsBareDeck made (length network.latches) (pins_of network) l []) (sym some_sinks) of))

pub push_deck-requires-clause-clocks : goal.push_deck-requires-clause-clocks
push_deck-requires-clause-clocks c =
    let network = c.args.network.now in
    let phases = map phase_of_sink (zip (sinks_of network) c.args.signs.now) in
    let cells = plain_cells c.args.plans.now in
    let base = new_circuit (escaped network.name) phases c.args.phases (pins_of network) (outs_of network) in
    subst (λ (d : CircuitData). HaveClocks d cells) (sym c.in_ok-circuit.ensures.circuit)
    (All-weaker (λ (cell : CellTrees × ℕ). (1 ≤ cell.1) × (cell.1 ≤ c.args.phases)) (λ (cell : CellTrees × ℕ). IsPort base (codes "ck" ++ decimal cell.1))
    (λ cell h. is_clock (escaped network.name) phases c.args.phases (pins_of network) (outs_of network) cell.1 h.0 h.1 c.requires.few_phases) cells c.requires.clocks)

pub push_deck-requires-clause-few : goal.push_deck-requires-clause-few
push_deck-requires-clause-few c =
    let same = c.network.view_is in
    let network = c.args.network.now in
    let is = subst IsNetwork same c.network.invariant in
    let pins = ap length (c.as_slice.ensures.value ∙ c.in_ok-circuit.ensures.pins) in
    omega (arith, pins, pins_count network is, ap length (c.as_slice-3.ensures.value ∙ ap (λ (n : NetworkData). n.latches) same), few_leaves network is)

pub push_deck-requires-clause-few_sinks : goal.push_deck-requires-clause-few_sinks
push_deck-requires-clause-few_sinks c =
    let network = c.args.network.now in
    let is = subst IsNetwork c.network.view_is c.network.invariant in
    omega (arith, ap length (c.as_slice-2.ensures.value ∙ c.in_ok-circuit.ensures.sinks), sinks_count network is, few_sinks network is)

pub push_deck-requires-clause-few_latches : goal.push_deck-requires-clause-few_latches
push_deck-requires-clause-few_latches c =
    let same = c.network.view_is in
    let network = c.args.network.now in
    let is = subst IsNetwork same c.network.invariant in
    omega (arith, ap length (c.as_slice-3.ensures.value ∙ ap (λ (n : NetworkData). n.latches) same), few_sinks network is)

pub push_deck-requires-clause-plans : goal.push_deck-requires-clause-plans
push_deck-requires-clause-plans c =
    let same = c.network.view_is in
    let network = c.args.network.now in
    let is = subst IsNetwork same c.network.invariant in
    let pins = ap length (c.as_slice.ensures.value ∙ c.in_ok-circuit.ensures.pins) ∙ pins_count network is in
    let latches = ap length (c.as_slice-3.ensures.value ∙ ap (λ (n : NetworkData). n.latches) same) in
    subst (λ n. AreCompoundPlans n c.args.plans.now) (sym (ap₂ (λ m n. m + n) pins latches)) c.requires.plans

pub push_deck-requires-clause-complements : goal.push_deck-requires-clause-complements
push_deck-requires-clause-complements c =
    let same = c.network.view_is in
    let network = c.args.network.now in
    let is = subst IsNetwork same c.network.invariant in
    let pins = ap length (c.as_slice.ensures.value ∙ c.in_ok-circuit.ensures.pins) ∙ pins_count network is in
    let latches = ap length (c.as_slice-3.ensures.value ∙ ap (λ (n : NetworkData). n.latches) same) in
    (c.requires.complements.0, c.requires.complements.1 ∙ ap (λ n. filter c.requires.complements.0 (range_with_len 0 n)) (sym (ap₂ (λ m n. m + n) pins latches)))

pub push_deck-requires-clause-sinks : goal.push_deck-requires-clause-sinks
push_deck-requires-clause-sinks c =
    let network = c.args.network.now in
    let is = subst IsNetwork c.network.view_is c.network.invariant in
    subst (All IsSinkName) (sym (c.as_slice-2.ensures.value ∙ c.in_ok-circuit.ensures.sinks)) (sinks_are network is c.in_ok-circuit.ensures.names)

pub push_deck-requires-clause-one_end : goal.push_deck-requires-clause-one_end
push_deck-requires-clause-one_end c =
    let network = c.args.network.now in
    let is = subst IsNetwork c.network.view_is c.network.invariant in
    c.requires.one_end ∙ sym (ap length (c.as_slice-2.ensures.value ∙ c.in_ok-circuit.ensures.sinks) ∙ sinks_count network is)

pub returns-clause-deck : goal.returns-clause-deck
returns-clause-deck c =
    let same = c.network.view_is in
    let network = c.args.network.now in
    let phases = map phase_of_sink (zip (sinks_of network) c.args.signs.now) in
    let deck = c.in_ok-circuit.ensures in
    let starts = λ (l : List NetLatch). map (λ (x : NetLatch). x.init) l in
    let cells = plain_cells c.args.plans.now in
    let ends = map (end_in c.args.cells.now) c.args.ends.now in
    let some_pins = c.as_slice.ensures.value ∙ deck.pins in
    let some_sinks = c.as_slice-2.ensures.value ∙ deck.sinks in
    let some_latches = c.as_slice-3.ensures.value ∙ ap (λ (n : NetworkData). n.latches) same in
    c.in_ok-push_deck.ensures
    ∙ ap (λ d. with_devices d (compound_devices c.as_slice.result.now c.as_slice-2.result.now (starts c.as_slice-3.result.now) cells c.args.complements.now ends)) deck.circuit
    ∙ (λ i. with_devices (new_circuit (escaped network.name) phases c.args.phases (pins_of network) (outs_of network))
    (compound_devices (some_pins i) (some_sinks i) (starts (some_latches i)) cells c.args.complements.now ends))

pub returns-clause-names : goal.returns-clause-names
returns-clause-names c = c.in_ok-circuit.ensures.names
