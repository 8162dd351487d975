use Rattle.std.proofs.Common.{rules, ◌≡◌, IfOk, map, ap, subst}
use Rattle.std.specs.Prelude.{Contains}
use Rattle.dom_base.proofs.Options.{if_ok-weaker}
use Rattle.blif_ast.specs.InstanceData.{InstanceData}
use Rattle.model_calls.proofs.FormalFaults.{bound_fault, instance_report}
use Rattle.model_calls.proofs.FirstFaults.{reported_left, reported_none, reported_some}
use Rattle.model_calls.specs.Formals.{IsUnbound, bound_formals, names_of_ports}
use Rattle.model_calls.specs.ModelFaults.{BoundFormal, InputFormal, IsBadFormal, IsWrongFormal, formals_of, line_of_formal, name_of_formal}
use Rattle.model_calls.specs.FirstFaults.{IsFirstFaultIn}
use Rattle.model_calls.specs.Scans.{IsScan, IsFirstWrongName, ScanData}
use Rattle.model_calls.proofs.formals.bad_in_instance.Goals as goal

pub returns-in-Some : goal.returns-in-Some
returns-in-Some c = let i = c.args.instance.now in let unit = c.args.unit.now in let s = c.scan_bindings.new.scan in
    let bindings : c.deref.result.now ≡ i.bindings = search rules in
    let scan = subst (λ b. IsScan (Contains (names_of_ports unit)) (bound_formals b) (bound_formals b) s) bindings c.in_ok-scan_bindings.ensures in
    let report = subst (λ line. IsFirstWrongName s line c.in_ok-report.field-0) (ap (λ (j : InstanceData). j.line) c.instance.view_is) c.in_ok-report.ensures in
    reported_left IsWrongFormal line_of_formal name_of_formal (map (BoundFormal i unit) (formals_of i)) (map (InputFormal i) unit.inputs) c.in-Some.report.line c.in-Some.report.name
    (reported_some IsBadFormal (map (BoundFormal i unit) (formals_of i)) line_of_formal name_of_formal c.in_ok-report.field-0 c.in-Some.report c.in-Some.is
    (bound_fault i unit s scan c.in_ok-report.field-0 report))

pub returns : goal.returns
returns c = let i = c.args.instance.now in let unit = c.args.unit.now in let s = c.scan_bindings.new.scan in
    let bindings : c.deref.result.now ≡ i.bindings = search rules in
    let scan = subst (λ b. IsScan (Contains (names_of_ports unit)) (bound_formals b) (bound_formals b) s) bindings c.in_ok-scan_bindings.ensures in
    let report = subst (λ line. IsFirstWrongName s line c.in_ok-report.field-0) (ap (λ (j : InstanceData). j.line) c.instance.view_is) c.in_ok-report.ensures in
    let none = reported_none IsBadFormal (map (BoundFormal i unit) (formals_of i)) line_of_formal name_of_formal c.in_ok-report.field-0 c.in_default.not-Some
    (bound_fault i unit s scan c.in_ok-report.field-0 report) in
    let names : c.scan.inside.names ≡ s.names = ap (λ (d : ScanData). d.names) c.scan.view_is in
    let inputs : c.deref-2.result.now ≡ unit.inputs = search rules in
    let found = subst (λ line. IfOk c.unbound_input.result (IsFirstFaultIn (IsUnbound s.names) unit.inputs (λ x. line) (λ x. x))) (ap (λ (j : InstanceData). j.line) c.instance.view_is)
    (subst (λ l. IfOk c.unbound_input.result (IsFirstFaultIn (IsUnbound s.names) l (λ x. c.instance.inside.line) (λ x. x))) inputs
    (subst (λ l. IfOk c.unbound_input.result (IsFirstFaultIn (IsUnbound l) c.deref-2.result.now (λ x. c.instance.inside.line) (λ x. x))) names c.unbound_input.ensures)) in
    if_ok-weaker c.unbound_input.result (instance_report i unit s scan none) found
