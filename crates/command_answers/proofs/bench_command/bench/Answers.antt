use Rattle.std.proofs.Common.{◌∙◌, ℕ, List, ap, subst}
use Rattle.std.proofs.lemmas.Result.{err_from_is_err_and}
use Rattle.network.specs.NetworkData.{NetworkData}
use Rattle.synth_flow.specs.SummaryLines.{summary_lines}
use Rattle.trace_tool.specs.CosimRefusals.{HasNetworkOf, IsUnflattened}
use Rattle.command_answers.specs.Endings.{ending_of}
use Rattle.command_answers.proofs.Benches.{bench_made, bench_unrefused, generated_unrefused}
use Rattle.command_answers.proofs.bench_command.bench.Goals as goal

pub returns-in_err-network-clause-failed : goal.returns-in_err-network-clause-failed
returns-in_err-network-clause-failed c why is =
    let p = err_from_is_err_and c.from_residual-in_err-network.result c.from_residual-in_err-network.ensures.1 in
    let a = p.1 in
    let b = p.2 in
    generated_unrefused c.args.seed c.args.size c.requires.good_size why
    (subst (λ (text : List ℕ). IsUnflattened text why) (c.deref.ensures.value ∙ c.in_ok-blif.ensures) (c.in_err-network.ensures.refused why (cc)))

pub returns-in_err-verdict-clause-failed : goal.returns-in_err-verdict-clause-failed
returns-in_err-verdict-clause-failed c why is =
    let p = err_from_is_err_and c.from_residual-in_err-verdict.result c.from_residual-in_err-verdict.ensures.1 in
    let a = p.1 in
    let b = p.2 in
    let network = c.in_ok-network.network in
    let has = subst (λ (text : List ℕ). HasNetworkOf text network) (c.deref.ensures.value ∙ c.in_ok-blif.ensures) c.in_ok-network.ensures.network in
    bench_unrefused c.args.seed c.args.size c.args.options c.requires.good_options network has c.in_ok-circuit.field-0.circuit c.in_ok-circuit.ensures.circuit
    c.whole.ensures.whole why (c.in_err-verdict.ensures.refused why (cc))

pub returns-clause-same : goal.returns-clause-same
returns-clause-same c =
    let network = c.in_ok-network.network in
    let figures = c.in_ok-circuit.field-0.figures in
    let has = subst (λ (text : List ℕ). HasNetworkOf text network) (c.deref.ensures.value ∙ c.in_ok-blif.ensures) c.in_ok-network.ensures.network in
    bench_made c.args.seed c.args.size c.args.options c.requires.good_options network has c.in_ok-circuit.field-0.circuit c.in_ok-circuit.ensures.circuit
    c.whole.ensures.whole c.in_ok-verdict.verdict figures c.in_ok-text.text.items c.append_verdict.new.text.items c.of-ending.result c.in_ok-verdict.ensures.verdict
    c.in_ok-circuit.ensures.figures (c.in_ok-text.ensures ∙ ap (λ (n : NetworkData). summary_lines n.name figures) c.network.view_is)
    c.in_ok-append_verdict.ensures (c.of-ending.ensures ∙ ap ending_of c.is_same.ensures)
