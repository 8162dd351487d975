use Rattle.std.proofs.Common.{rules, ◌≡◌, IfOk, subst}
use Rattle.dom_base.proofs.Options.{if_ok-weaker}
use Rattle.model_calls.specs.ModelFaults.{IsDuplicatePort, IsTwiceIn, Port, ports_in}
use Rattle.model_calls.specs.FirstFaults.{IsFirstFaultIn}
use Rattle.model_calls.proofs.FirstFaults.{behind_none, reported_left, reported_none, reported_some}
use Rattle.model_calls.proofs.ports.duplicate_in_model.Goals as goal

pub returns-in-Some : goal.returns-in-Some
returns-in-Some c = let m = c.args.model.now in
    let same : ports_in c.model.inside.line c.deref.result.now ≡ ports_in m.line m.inputs = search rules in
    reported_left (λ (p : Port). IsTwiceIn p.list p.name) (λ p. p.line) (λ p. p.name) (ports_in m.line m.inputs) (ports_in m.line m.outputs) c.in-Some.report.line c.in-Some.report.name
    (reported_some IsDuplicatePort (ports_in m.line m.inputs) (λ p. p.line) (λ p. p.name) c.in_ok-report.field-0 c.in-Some.report c.in-Some.is
    (subst (λ all. IsFirstFaultIn IsDuplicatePort all (λ p. p.line) (λ p. p.name) c.in_ok-report.field-0) same c.in_ok-report.ensures))

pub returns : goal.returns
returns c = let m = c.args.model.now in
    let same : ports_in c.model.inside.line c.deref.result.now ≡ ports_in m.line m.inputs = search rules in
    let same-2 : ports_in c.model.inside.line c.deref-2.result.now ≡ ports_in m.line m.outputs = search rules in
    if_ok-weaker c.duplicate_in_list-2.result
    (behind_none (λ (p : Port). IsTwiceIn p.list p.name) (λ p. p.line) (λ p. p.name) (ports_in m.line m.inputs) (ports_in m.line m.outputs)
    (reported_none IsDuplicatePort (ports_in m.line m.inputs) (λ p. p.line) (λ p. p.name) c.in_ok-report.field-0 c.in_default.not-Some
    (subst (λ all. IsFirstFaultIn IsDuplicatePort all (λ p. p.line) (λ p. p.name) c.in_ok-report.field-0) same c.in_ok-report.ensures)))
    (subst (λ all. IfOk c.duplicate_in_list-2.result (IsFirstFaultIn IsDuplicatePort all (λ p. p.line) (λ p. p.name))) same-2 c.duplicate_in_list-2.ensures)
