use Rattle.std.proofs.Common.{◌≡◌, length, refl, ap, ◌∙◌, rules}
use Rattle.std.proofs.lemmas.List.{length-map}
use Rattle.net_run.proofs.Runners.{runner_of_network}
use Rattle.net_run.proofs.runner.Runner.new.Goals as goal

pub invariant_of-result : goal.invariant_of-result
invariant_of-result c =
    let outputs : c.in_ok-outputs.outputs.items ≡ c.network.inside.outputs.items = search rules in
    runner_of_network
    (record { name = c.network.inside.name; names = c.network.inside.names; inputs = c.network.inside.inputs; outputs = c.network.inside.outputs.items; latches = c.network.inside.latches.items; tables = c.network.inside.tables })
    (record { inputs = c.network.inside.inputs; outputs = c.in_ok-outputs.outputs.items; latches = c.in_ok-latches.latches.items; tables = c.in_ok-copy.field-0; state = c.in_ok-state.state.items })
    (record {
      network = c.network.invariant;
      inputs_are = refl;
      outputs_are = outputs;
      latches_are = search rules;
      tables_are = c.in_ok-copy.ensures;
    })
    c.in_ok-vec.field-0.items c.in_ok-vec-2.field-0.items (ap length c.in_ok-state.ensures ∙ length-map _ _ ∙ ap length c.deref-2.ensures.value) (search rules) (search rules)
