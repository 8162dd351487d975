use Rattle.std.proofs.Common.{ap, sym, zero-add, ◌++◌, ◌∷◌, [], ◌∙◌, map, append-nil, append_assoc}
use Rattle.std.specs.List.{range_with_len}
use Rattle.std.proofs.lemmas.List.FromFn.{map-range_with_len_more}
use Rattle.deck_form.specs.DeckNets.{data_net}
use Rattle.synth_flow.proofs.LoopItems.{pushed_item}
use Rattle.synth_flow.proofs.sinks.sink_names.Goals as goal

pub latches-init : goal.latches-init
latches-init c = c.in_ok-nets.ensures ∙ sym (append-nil c.args.outs.now)

pub latches-preserved : goal.latches-preserved
latches-preserved c =
    let j = c.latches.j in
    let outs = c.args.outs.now in
    pushed_item c.in_ok-push.ensures.items c.latches.invariant c.in_ok-numbered_name.ensures
    ∙ append_assoc outs (map data_net (range_with_len 0 j)) (data_net j ∷ [])
    ∙ ap (λ l. outs ++ l) (sym (map-range_with_len_more data_net 0 j j (zero-add j)))
