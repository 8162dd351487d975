use Rattle.std.proofs.Common.{◌∙◌, ℕ, List, ap, subst}
use Rattle.std.specs.Prelude.{IfOk}
use Rattle.network.specs.NetworkData.{NetworkData}
use Rattle.net_gen.specs.Stimulus.{stimulus_text}
use Rattle.trace_tool.specs.CircuitVerdicts.{HasNoCircuitVerdict, IsCircuitVerdict}
use Rattle.trace_tool.specs.declared.options.Order.TheVariants.{First}
use Rattle.command_answers.proofs.bench_command.own_verdict.Goals as goal

pub returns-clause-verdict : goal.returns-clause-verdict
returns-clause-verdict c =
    let stim = c.deref.ensures.value ∙ c.in_ok-stim.ensures ∙ ap (λ (n : NetworkData). stimulus_text c.args.seed n.inputs) c.network.view_is in
    subst (λ (text : List ℕ). IfOk c.verdict_of_circuit.result (λ verdict. IsCircuitVerdict c.args.network.now c.args.circuit text First 0 verdict)) stim
    c.verdict_of_circuit.ensures.verdict

pub returns-clause-refused : goal.returns-clause-refused
returns-clause-refused c why is =
    let stim = c.deref.ensures.value ∙ c.in_ok-stim.ensures ∙ ap (λ (n : NetworkData). stimulus_text c.args.seed n.inputs) c.network.view_is in
    subst (λ (text : List ℕ). HasNoCircuitVerdict c.args.network.now c.args.circuit text why) stim (c.verdict_of_circuit.ensures.refused why is)
