use Rattle.std.proofs.Common.{◌≡◌, ℕ, All, Bool, List, length, ap, subst}
use Rattle.std.proofs.lemmas.Result.{err_from_is_err_and}
use Rattle.network.specs.NetworkData.{NetworkData}
use Rattle.network.specs.Networks.{IsNetwork}
use Rattle.stim_text.specs.Stimuli.{IsStimFaultAt, IsStimulusOf}
use Rattle.trace_tool.specs.PortDifferences.{ComparesPorts}
use Rattle.trace_tool.specs.Refusals.{of_stim}
use Rattle.trace_tool.proofs.CircuitVerdicts.{stim_refused, verdict_of_ports, verdict_of_run}
use Rattle.trace_tool.proofs.PortCounts.{counts_agree}
use Rattle.trace_tool.proofs.circuit_verdict.verdict_of_circuit.Goals as goal

pub returns-in_err-cycles-clause-refused : goal.returns-in_err-cycles-clause-refused
returns-in_err-cycles-clause-refused c why is =
    let p = err_from_is_err_and c.from_residual-in_err-cycles.result c.from_residual-in_err-cycles.ensures.1 in
    let a = p.1 in
    let b = p.2 in
    let same : why ≡ of_stim c.in_err-cycles.field-0.0 = cc in
    stim_refused c.args.network.now c.args.circuit c.args.stim.now c.in_ok-roles.roles c.in_err-cycles.field-0.0 why c.in_ok-roles.ensures.roles
    (λ line kind e.
    subst (λ (width : ℕ). IsStimFaultAt width c.args.stim.now line kind) (ap (λ (n : NetworkData). n.inputs) c.network.view_is)
    (c.in_err-cycles.ensures.fault line kind (let d = e in cc))) same

pub returns-in-Some-clause-verdict : goal.returns-in-Some-clause-verdict
returns-in-Some-clause-verdict c =
    let stimulus = subst (λ (width : ℕ). IsStimulusOf width c.args.stim.now c.in_ok-cycles.cycles) (ap (λ (n : NetworkData). n.inputs) c.network.view_is) c.in_ok-cycles.ensures.stimulus in
    verdict_of_ports c.args.network.now c.args.circuit c.args.stim.now c.args.order c.args.seed c.in_ok-roles.roles c.in_ok-cycles.cycles
    (subst IsNetwork c.network.view_is c.network.invariant) c.in_ok-roles.ensures.roles stimulus c.in-Some.place
    (subst (ComparesPorts c.args.network.now c.args.circuit c.in_ok-roles.roles) c.in-Some.is c.in_ok-place.ensures)

pub compared_by-requires-clause-inputs : goal.compared_by-requires-clause-inputs
compared_by-requires-clause-inputs c =
    (counts_agree c.args.circuit c.in_ok-roles.roles c.args.network.now c.in_ok-roles.ensures.roles
    (subst IsNetwork c.network.view_is c.network.invariant)
    (subst (ComparesPorts c.args.network.now c.args.circuit c.in_ok-roles.roles) c.in_default.is c.in_ok-place.ensures)).0

pub compared_by-requires-clause-outputs : goal.compared_by-requires-clause-outputs
compared_by-requires-clause-outputs c =
    (counts_agree c.args.circuit c.in_ok-roles.roles c.args.network.now c.in_ok-roles.ensures.roles
    (subst IsNetwork c.network.view_is c.network.invariant)
    (subst (ComparesPorts c.args.network.now c.args.circuit c.in_ok-roles.roles) c.in_default.is c.in_ok-place.ensures)).1

pub compared_by-requires-clause-widths : goal.compared_by-requires-clause-widths
compared_by-requires-clause-widths c =
    let stimulus = subst (λ (width : ℕ). IsStimulusOf width c.args.stim.now c.in_ok-cycles.cycles) (ap (λ (n : NetworkData). n.inputs) c.network.view_is) c.in_ok-cycles.ensures.stimulus in
    let counts = counts_agree c.args.circuit c.in_ok-roles.roles c.args.network.now c.in_ok-roles.ensures.roles
    (subst IsNetwork c.network.view_is c.network.invariant)
    (subst (ComparesPorts c.args.network.now c.args.circuit c.in_ok-roles.roles) c.in_default.is c.in_ok-place.ensures) in
    subst (λ (w : ℕ). All (λ (pins : List Bool). length pins ≡ w) c.in_ok-cycles.cycles) counts.0 stimulus.widths_are

pub returns-clause-verdict : goal.returns-clause-verdict
returns-clause-verdict c =
    let stimulus = subst (λ (width : ℕ). IsStimulusOf width c.args.stim.now c.in_ok-cycles.cycles) (ap (λ (n : NetworkData). n.inputs) c.network.view_is) c.in_ok-cycles.ensures.stimulus in
    verdict_of_run c.args.network.now c.args.circuit c.args.stim.now c.args.order c.args.seed c.in_ok-roles.roles c.in_ok-cycles.cycles
    (subst IsNetwork c.network.view_is c.network.invariant) c.in_ok-roles.ensures.roles stimulus c.in_ok-verdict.verdict
    (subst (ComparesPorts c.args.network.now c.args.circuit c.in_ok-roles.roles) c.in_default.is c.in_ok-place.ensures)
    c.in_ok-verdict.ensures
