use Rattle.std.proofs.Common.{sym, zero-add, ◌∙◌}
use Rattle.std.proofs.lemmas.List.FromFn.{map-range_with_len_more}
use Rattle.deck_form.specs.DeckNets.{named_gate}
use Rattle.synth_flow.proofs.LoopItems.{pushed_item}
use Rattle.synth_flow.proofs.names.gate_names.Goals as goal

pub gates-preserved : goal.gates-preserved
gates-preserved c =
    pushed_item c.in_ok-push.ensures.items c.gates.invariant c.in_ok-gate_name.ensures
    ∙ sym (map-range_with_len_more (named_gate c.args.pins.now c.args.leaves) 0 c.gates.gate c.gates.gate (zero-add c.gates.gate))
