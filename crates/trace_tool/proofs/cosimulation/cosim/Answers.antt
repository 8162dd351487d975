use Rattle.std.proofs.Common.{◌≡◌}
use Rattle.std.proofs.lemmas.Result.{IfOk-weaker, err_from_is_err_and}
use Rattle.trace_tool.specs.Refusals.{of_deck}
use Rattle.trace_tool.proofs.CircuitVerdicts.{refused_of_texts, verdict_of_texts}
use Rattle.trace_tool.proofs.CosimCauses.{deck_refused, unflattened_refused}
use Rattle.trace_tool.proofs.cosimulation.cosim.Goals as goal

pub returns-in_err-network-clause-refused : goal.returns-in_err-network-clause-refused
returns-in_err-network-clause-refused c why is =
    let p = err_from_is_err_and c.from_residual.result c.from_residual.ensures.1 in
    let a = p.1 in
    let b = p.2 in
    unflattened_refused c.args.blif.now c.args.deck.now c.args.stim.now why (c.in_err-network.ensures.refused why (cc))

pub returns-in_err-circuit-clause-refused : goal.returns-in_err-circuit-clause-refused
returns-in_err-circuit-clause-refused c why is =
    let p = err_from_is_err_and c.from_residual-in_err-circuit.result c.from_residual-in_err-circuit.ensures.1 in
    let a = p.1 in
    let b = p.2 in
    let same : why ≡ of_deck c.in_err-circuit.field-0.0 = cc in
    deck_refused c.args.blif.now c.args.deck.now c.args.stim.now c.in_ok-network.network c.in_err-circuit.field-0.0 why c.in_ok-network.ensures.network
    (λ line kind e. c.in_err-circuit.ensures.fault line kind (let d = e in cc)) same

pub returns-clause-verdict : goal.returns-clause-verdict
returns-clause-verdict c =
    IfOk-weaker c.verdict_of_circuit.result _ _
    (λ verdict is.
    verdict_of_texts c.in_ok-network.network c.in_ok-circuit.circuit c.args.stim.now c.args.blif.now c.args.deck.now c.in_ok-network.ensures.network c.in_ok-circuit.ensures.circuit
    c.args.order c.args.seed verdict is)
    c.verdict_of_circuit.ensures.verdict

pub returns-clause-refused : goal.returns-clause-refused
returns-clause-refused c why is =
    refused_of_texts c.in_ok-network.network c.in_ok-circuit.circuit c.args.stim.now c.args.blif.now c.args.deck.now c.in_ok-network.ensures.network c.in_ok-circuit.ensures.circuit
    why (c.verdict_of_circuit.ensures.refused why is)
