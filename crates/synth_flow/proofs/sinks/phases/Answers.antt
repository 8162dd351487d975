use Rattle.std.proofs.Common.{ap, arith, sym, ◌∙◌, map, get_or, false}
use Rattle.synth_flow.specs.SinkParts.{phase_of_sink}
use Rattle.synth_flow.proofs.LoopItems.{pushed_item}
use Rattle.synth_flow.proofs.SinkLists.{all_zipped, phases_more}
use Rattle.synth_flow.proofs.sinks.phases.Goals as goal

pub sinks-preserved : goal.sinks-preserved
sinks-preserved c =
    let net = c.index-nets-k.result in
    pushed_item c.in_ok-push.ensures.items c.sinks.invariant (λ i. record { net = c.in_ok-net.ensures i; plus = get_or c.args.signs.now c.sinks.k false })
    ∙ sym (phases_more c.args.nets.now c.args.signs.now c.sinks.k net false (omega arith) (omega arith) c.index-nets-k.is)

pub returns : goal.returns
returns c = c.sinks.invariant ∙ ap (map phase_of_sink) (all_zipped c.args.nets.now c.args.signs.now c.sinks.k (omega arith))
