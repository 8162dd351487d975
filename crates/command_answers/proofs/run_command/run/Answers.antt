use Rattle.std.proofs.Common.{◌≡◌, ℕ, refl, ap, subst}
use Rattle.std.proofs.lemmas.Result.{err_from_is_err_and}
use Rattle.network.specs.NetworkData.{NetworkData}
use Rattle.stim_text.specs.Stimuli.{IsStimFaultAt, IsStimulusOf}
use Rattle.trace_tool.specs.Refusals.{of_stim}
use Rattle.command_answers.proofs.TextNetworks.{text_network, network_unrun, stimulus_unrun}
use Rattle.command_answers.proofs.run_command.run.Goals as goal

pub returns-in_err-network-clause-refused : goal.returns-in_err-network-clause-refused
returns-in_err-network-clause-refused c why is =
    let p = err_from_is_err_and c.from_residual.result c.from_residual.ensures.1 in
    let a = p.1 in
    let b = p.2 in
    network_unrun c.args.bytes.now c.args.stim.now why (c.in_err-network.ensures.refused why (cc))

pub returns-in_err-cycles-clause-refused : goal.returns-in_err-cycles-clause-refused
returns-in_err-cycles-clause-refused c why is =
    let p = err_from_is_err_and c.from_residual-in_err-cycles.result c.from_residual-in_err-cycles.ensures.1 in
    let a = p.1 in
    let b = p.2 in
    let same : why ≡ of_stim c.in_err-cycles.field-0.0 = cc in
    stimulus_unrun c.args.bytes.now c.args.stim.now c.in_ok-network.network c.in_err-cycles.field-0.0 why
    (text_network c.args.bytes.now c.in_ok-network.network c.requires.within c.in_ok-network.ensures.network)
    (λ line kind e.
    subst (λ (width : ℕ). IsStimFaultAt width c.args.stim.now line kind) (ap (λ (n : NetworkData). n.inputs) c.network.view_is)
    (c.in_err-cycles.ensures.fault line kind (let d = e in cc))) same

pub returns-clause-text : goal.returns-clause-text
returns-clause-text c =
    let stimulus = subst (λ (width : ℕ). IsStimulusOf width c.args.stim.now c.in_ok-cycles.cycles) (ap (λ (n : NetworkData). n.inputs) c.network.view_is) c.in_ok-cycles.ensures.stimulus in
    let has = text_network c.args.bytes.now c.in_ok-network.network c.requires.within c.in_ok-network.ensures.network in
    (record { network = c.in_ok-network.network; has = has; stream = c.in_ok-cycles.cycles; stimulus = stimulus; text_is = c.in_ok-text.ensures }, refl)
