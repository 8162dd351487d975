use Rattle.std.proofs.Common.{◌≡◌, ◌<◌, List, ◌++◌, All, length, map, vec_len, nat_eq, ap, ap₂, arith, subst, sym, ◌∙◌, rules}
use Rattle.std.specs.Prelude.{codes}
use Rattle.std.specs.List.{IsDistinct, range_with_len, zip}
use Rattle.std.specs.Cmp.Lexicographic.{pointwise}
use Rattle.deck.specs.Ports.{IsOutput, IsPin}
use Rattle.deck.specs.Pushes.{new_circuit}
use Rattle.deck.specs.Escapes.{escaped}
use Rattle.network.specs.NetworkData.{NetworkData}
use Rattle.network.specs.Networks.{IsNetwork}
use Rattle.deck_form.specs.DeckNets.{data_net}
use Rattle.deck_form.specs.DominoDecks.{outs_of, pins_of}
use Rattle.synth_flow.specs.MadeDecks.{port_net}
use Rattle.synth_flow.specs.SinkParts.{phase_of_sink}
use Rattle.synth_flow.proofs.NetworkDecks.{all_apart, few_leaves, few_sinks, outs_begin, outs_count, pins_begin, pins_count, sinks_count}
use Rattle.synth_flow.proofs.bare.bare_deck.Goals as goal

pub phases-requires : goal.phases-requires
phases-requires c =
    let same = c.network.view_is in
    let network = c.args.network.now in
    let is = subst IsNetwork same c.network.invariant in
    let bytes = subst (λ l. All (λ name. All (λ b. b < 256) name) l) (ap (λ (n : NetworkData). n.names) same) c.see_names.ensures in
    let pins = c.in_ok-pins.ensures ∙ ap pins_of same in
    let outs = c.in_ok-outs.ensures ∙ ap (map (port_net (codes "o_") c.network.inside.names)) c.as_slice.ensures.value ∙ ap outs_of same in
    let counted : vec_len c.network.inside.latches ≡ length c.network.inside.latches.items = search rules in
    let latches = c.len.ensures ∙ counted ∙ ap (λ (n : NetworkData). length n.latches) same in
    let sinks = c.in_ok-sinks.ensures ∙ ap₂ (λ l n. l ++ map data_net (range_with_len 0 n)) (c.as_slice-2.ensures.value ∙ outs) latches in
    ap length (c.as_slice-3.ensures.value ∙ sinks) ∙ sinks_count network is ∙ sym c.requires.signs

pub new-requires-clause-pins_begin : goal.new-requires-clause-pins_begin
new-requires-clause-pins_begin c =
    let same = c.network.view_is in
    let network = c.args.network.now in
    let is = subst IsNetwork same c.network.invariant in
    let bytes = subst (λ l. All (λ name. All (λ b. b < 256) name) l) (ap (λ (n : NetworkData). n.names) same) c.see_names.ensures in
    let pins = c.in_ok-pins.ensures ∙ ap pins_of same in
    let outs = c.in_ok-outs.ensures ∙ ap (map (port_net (codes "o_") c.network.inside.names)) c.as_slice.ensures.value ∙ ap outs_of same in
    let counted : vec_len c.network.inside.latches ≡ length c.network.inside.latches.items = search rules in
    let latches = c.len.ensures ∙ counted ∙ ap (λ (n : NetworkData). length n.latches) same in
    let sinks = c.in_ok-sinks.ensures ∙ ap₂ (λ l n. l ++ map data_net (range_with_len 0 n)) (c.as_slice-2.ensures.value ∙ outs) latches in
    subst (All IsPin) (sym (c.as_slice-4.ensures.value ∙ pins)) (pins_begin network is)

pub new-requires-clause-outs_begin : goal.new-requires-clause-outs_begin
new-requires-clause-outs_begin c =
    let same = c.network.view_is in
    let network = c.args.network.now in
    let is = subst IsNetwork same c.network.invariant in
    let bytes = subst (λ l. All (λ name. All (λ b. b < 256) name) l) (ap (λ (n : NetworkData). n.names) same) c.see_names.ensures in
    let pins = c.in_ok-pins.ensures ∙ ap pins_of same in
    let outs = c.in_ok-outs.ensures ∙ ap (map (port_net (codes "o_") c.network.inside.names)) c.as_slice.ensures.value ∙ ap outs_of same in
    let counted : vec_len c.network.inside.latches ≡ length c.network.inside.latches.items = search rules in
    let latches = c.len.ensures ∙ counted ∙ ap (λ (n : NetworkData). length n.latches) same in
    let sinks = c.in_ok-sinks.ensures ∙ ap₂ (λ l n. l ++ map data_net (range_with_len 0 n)) (c.as_slice-2.ensures.value ∙ outs) latches in
    subst (All IsOutput) (sym (c.as_slice-5.ensures.value ∙ outs)) (outs_begin network is)

pub new-requires-clause-apart : goal.new-requires-clause-apart
new-requires-clause-apart c =
    let same = c.network.view_is in
    let network = c.args.network.now in
    let is = subst IsNetwork same c.network.invariant in
    let bytes = subst (λ l. All (λ name. All (λ b. b < 256) name) l) (ap (λ (n : NetworkData). n.names) same) c.see_names.ensures in
    let pins = c.in_ok-pins.ensures ∙ ap pins_of same in
    let outs = c.in_ok-outs.ensures ∙ ap (map (port_net (codes "o_") c.network.inside.names)) c.as_slice.ensures.value ∙ ap outs_of same in
    let counted : vec_len c.network.inside.latches ≡ length c.network.inside.latches.items = search rules in
    let latches = c.len.ensures ∙ counted ∙ ap (λ (n : NetworkData). length n.latches) same in
    let sinks = c.in_ok-sinks.ensures ∙ ap₂ (λ l n. l ++ map data_net (range_with_len 0 n)) (c.as_slice-2.ensures.value ∙ outs) latches in
    let both = ap₂ (λ l r. l ++ r) (c.as_slice-4.ensures.value ∙ pins) (c.as_slice-5.ensures.value ∙ outs) in
    subst (IsDistinct (pointwise nat_eq)) (sym both) (all_apart network is bytes)

pub new-requires-clause-few : goal.new-requires-clause-few
new-requires-clause-few c =
    let same = c.network.view_is in
    let network = c.args.network.now in
    let is = subst IsNetwork same c.network.invariant in
    let bytes = subst (λ l. All (λ name. All (λ b. b < 256) name) l) (ap (λ (n : NetworkData). n.names) same) c.see_names.ensures in
    let pins = c.in_ok-pins.ensures ∙ ap pins_of same in
    let outs = c.in_ok-outs.ensures ∙ ap (map (port_net (codes "o_") c.network.inside.names)) c.as_slice.ensures.value ∙ ap outs_of same in
    let counted : vec_len c.network.inside.latches ≡ length c.network.inside.latches.items = search rules in
    let latches = c.len.ensures ∙ counted ∙ ap (λ (n : NetworkData). length n.latches) same in
    let sinks = c.in_ok-sinks.ensures ∙ ap₂ (λ l n. l ++ map data_net (range_with_len 0 n)) (c.as_slice-2.ensures.value ∙ outs) latches in
    omega (arith, ap length (c.as_slice-4.ensures.value ∙ pins), ap length (c.as_slice-5.ensures.value ∙ outs), pins_count network is, outs_count network is, few_leaves network is, few_sinks network is)

pub returns-clause-circuit : goal.returns-clause-circuit
returns-clause-circuit c =
    let same = c.network.view_is in
    let network = c.args.network.now in
    let is = subst IsNetwork same c.network.invariant in
    let bytes = subst (λ l. All (λ name. All (λ b. b < 256) name) l) (ap (λ (n : NetworkData). n.names) same) c.see_names.ensures in
    let pins = c.in_ok-pins.ensures ∙ ap pins_of same in
    let outs = c.in_ok-outs.ensures ∙ ap (map (port_net (codes "o_") c.network.inside.names)) c.as_slice.ensures.value ∙ ap outs_of same in
    let counted : vec_len c.network.inside.latches ≡ length c.network.inside.latches.items = search rules in
    let latches = c.len.ensures ∙ counted ∙ ap (λ (n : NetworkData). length n.latches) same in
    let sinks = c.in_ok-sinks.ensures ∙ ap₂ (λ l n. l ++ map data_net (range_with_len 0 n)) (c.as_slice-2.ensures.value ∙ outs) latches in
    let circuit = c.in_ok-circuit.ensures
    ∙ ap₂ (λ l r. new_circuit c.in_ok-name.name c.in_ok-phases.phases.items c.args.clocks l r) (c.as_slice-4.ensures.value ∙ pins) (c.as_slice-5.ensures.value ∙ outs) in
    let name = c.in_ok-name.ensures ∙ ap escaped c.as_bytes-title.ensures ∙ ap (λ (n : NetworkData). escaped n.name) same in
    let phases = c.in_ok-phases.ensures ∙ ap (λ l. map phase_of_sink (zip l c.args.signs.now)) (c.as_slice-3.ensures.value ∙ sinks) in
    circuit ∙ (λ i. new_circuit (name i) (phases i) c.args.clocks (pins_of network) (outs_of network))

pub returns-clause-pins : goal.returns-clause-pins
returns-clause-pins c =
    c.in_ok-pins.ensures ∙ ap pins_of c.network.view_is

pub returns-clause-sinks : goal.returns-clause-sinks
returns-clause-sinks c =
    let same = c.network.view_is in
    let outs = c.in_ok-outs.ensures ∙ ap (map (port_net (codes "o_") c.network.inside.names)) c.as_slice.ensures.value ∙ ap outs_of same in
    let counted : vec_len c.network.inside.latches ≡ length c.network.inside.latches.items = search rules in
    let latches = c.len.ensures ∙ counted ∙ ap (λ (n : NetworkData). length n.latches) same in
    c.in_ok-sinks.ensures ∙ ap₂ (λ l n. l ++ map data_net (range_with_len 0 n)) (c.as_slice-2.ensures.value ∙ outs) latches

pub returns-clause-names : goal.returns-clause-names
returns-clause-names c =
    subst (λ l. All (λ name. All (λ b. b < 256) name) l) (ap (λ (n : NetworkData). n.names) c.network.view_is) c.see_names.ensures
