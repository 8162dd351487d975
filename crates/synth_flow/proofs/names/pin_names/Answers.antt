use Rattle.std.proofs.Common.{sym, zero-add, ◌∙◌}
use Rattle.std.specs.Prelude.{codes}
use Rattle.std.proofs.lemmas.List.FromFn.{map-range_with_len_more}
use Rattle.synth_flow.specs.MadeDecks.{port_net}
use Rattle.synth_flow.proofs.LoopItems.{pushed_item}
use Rattle.synth_flow.proofs.names.pin_names.Goals as goal

pub pins-preserved : goal.pins-preserved
pins-preserved c =
    pushed_item c.in_ok-push.ensures.items c.pins.invariant c.in_ok-port_name.ensures
    ∙ sym (map-range_with_len_more (port_net (codes "i_") c.args.names.now) 0 c.pins.signal c.pins.signal (zero-add c.pins.signal))
