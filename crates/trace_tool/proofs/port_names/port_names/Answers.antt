use Rattle.std.proofs.Common.{◌<◌, ◌∙◌, [], ◌∷◌, ◌++◌, length, slice_index_or, ap, map, sym, subst, take, arith}
use Rattle.std.proofs.lemmas.List.{map-append}
use Rattle.std.proofs.lemmas.Option.{slice_get-get_or}
use Rattle.deck.specs.PortNames.{pin_name}
use Rattle.network.specs.NetworkData.{NetworkData}
use Rattle.network.specs.Networks.{IsNetwork}
use Rattle.network.proofs.IndexedLists.{take_next}
use Rattle.trace_tool.proofs.port_names.port_names.Goals as goal

pub loop-input-preserved : goal.loop-input-preserved
loop-input-preserved c =
    let names = c.args.network.now.names in
    let k = c.loop-input.input in
    let is = subst IsNetwork c.network.view_is c.network.invariant in
    let low : k < length names = omega (arith, is.count, ap (λ (n : NetworkData). n.inputs) c.network.view_is, c.loop-input-test.true) in
    let name = slice_index_or names k [] in
    let port = c.in_ok-port_of.ensures ∙ ap (λ (n : NetworkData). pin_name (slice_index_or n.names k [])) c.network.view_is in
    c.in_ok-push.ensures.items ∙ (λ i. c.loop-input.invariant i ++ port i ∷ [])
    ∙ sym (map-append pin_name (take k names) (name ∷ [])) ∙ sym (ap (map pin_name) (take_next names k name (slice_get-get_or names k [] low)))
