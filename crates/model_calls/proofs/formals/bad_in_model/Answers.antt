use Rattle.std.proofs.Common.{◌≡◌, ◌≤◌, length, Some, refl, sym, ◌∙◌, subst, arith}
use Rattle.std.proofs.lemmas.List.{take_all}
use Rattle.std.proofs.lemmas.Option.{slice_get_within}
use Rattle.blif_ast.specs.BlifModelData.{BlifModelData}
use Rattle.model_calls.proofs.FormalFaults.{called_at, callee_is, callees_count, report_of_instance}
use Rattle.model_calls.proofs.FirstFaults.{item_at, none_up_to, reported_at, reported_none, reported_some}
use Rattle.model_calls.specs.CallNumbers.{names_of_models}
use Rattle.model_calls.specs.Formals.{IsPortTable, formals_in, formals_of_instance}
use Rattle.model_calls.specs.ModelFaults.{IsBadFormal, IsWrongFormal, line_of_formal, name_of_formal}
use Rattle.model_calls.specs.FirstFaults.{NoneHolds}
use Rattle.model_calls.proofs.formals.bad_in_model.Goals as goal

pub callee-unit-requires : goal.callee-unit-requires
callee-unit-requires c = record { within = omega (arith, c.loop-index-test.true, callees_count (names_of_models c.args.models.now) c.args.instances.now c.args.node.now c.requires.callees) }

pub bounds-models-unit : goal.bounds-models-unit
bounds-models-unit c =
    let there = item_at c.args.instances.now (length c.args.instances.now) c.loop-index.index c.index-instances-index.result refl c.loop-index-test.true c.index-instances-index.is in
    let h = callee_is c.args.models.now c.args.instances.now c.args.node.now c.requires.callees c.loop-index.index c.callee-unit.result c.index-instances-index.result there c.callee-unit.ensures.there in
    slice_get_within c.args.models.now c.callee-unit.result h.0 h.1

pub bad_in_instance-requires : goal.bad_in_instance-requires
bad_in_instance-requires c =
    let there = item_at c.args.instances.now (length c.args.instances.now) c.loop-index.index c.index-instances-index.result refl c.loop-index-test.true c.index-instances-index.is in
    let h = callee_is c.args.models.now c.args.instances.now c.args.node.now c.requires.callees c.loop-index.index c.callee-unit.result c.index-instances-index.result there c.callee-unit.ensures.there in
    let within = slice_get_within c.args.models.now c.callee-unit.result h.0 h.1 in
    let at = item_at c.args.models.now (length c.args.models.now) c.callee-unit.result c.index-models-unit.result refl within c.index-models-unit.is in record {
      ports = subst (IsPortTable c.index-models-unit.result) (sym c.get.ensures.value) (c.in_ok-add_ports.ensures c.args.models.now at c.loop-index.invariant.1 c.callee-unit.result c.index-models-unit.result at);
    }

pub returns-in-Some-clause-ports : goal.returns-in-Some-clause-ports
returns-in-Some-clause-ports c =
    let there = item_at c.args.instances.now (length c.args.instances.now) c.loop-index.index c.index-instances-index.result refl c.loop-index-test.true c.index-instances-index.is in
    let h = callee_is c.args.models.now c.args.instances.now c.args.node.now c.requires.callees c.loop-index.index c.callee-unit.result c.index-instances-index.result there c.callee-unit.ensures.there in
    let within = slice_get_within c.args.models.now c.callee-unit.result h.0 h.1 in
    let at = item_at c.args.models.now (length c.args.models.now) c.callee-unit.result c.index-models-unit.result refl within c.index-models-unit.is in
    c.in_ok-add_ports.ensures c.args.models.now at c.loop-index.invariant.1

pub returns-in-Some-clause-report : goal.returns-in-Some-clause-report
returns-in-Some-clause-report c =
    let there = item_at c.args.instances.now (length c.args.instances.now) c.loop-index.index c.index-instances-index.result refl c.loop-index-test.true c.index-instances-index.is in
    let h = callee_is c.args.models.now c.args.instances.now c.args.node.now c.requires.callees c.loop-index.index c.callee-unit.result c.index-instances-index.result there c.callee-unit.ensures.there in
    let at = item_at c.args.models.now (length c.args.models.now) c.callee-unit.result c.index-models-unit.result refl (slice_get_within c.args.models.now c.callee-unit.result h.0 h.1) c.index-models-unit.is in
    let same : h.0 ≡ c.index-models-unit.result = (let e : Some h.0 ≡ Some c.index-models-unit.result = sym h.1 ∙ at in cc) in
    let called = called_at c.args.models.now c.requires.apart c.callee-unit.result c.index-models-unit.result c.index-instances-index.result.unit at (subst (λ (n : BlifModelData). n.name ≡ c.index-instances-index.result.unit) same h.2) in
    reported_at IsWrongFormal line_of_formal name_of_formal (formals_of_instance c.args.models.now) c.args.instances.now c.loop-index.index c.index-instances-index.result there c.in-Some.report.line c.in-Some.report.name
    c.loop-index.invariant.0
    (reported_some IsBadFormal (formals_of_instance c.args.models.now c.index-instances-index.result) line_of_formal name_of_formal c.in_ok-report.field-0 c.in-Some.report c.in-Some.is
    (report_of_instance c.args.models.now c.index-instances-index.result c.index-models-unit.result called c.in_ok-report.field-0 c.in_ok-report.ensures))

pub loop-index-init : goal.loop-index-init
loop-index-init c = (λ k e there bad. absurd cc, c.requires.ports)

pub loop-index-preserved : goal.loop-index-preserved
loop-index-preserved c =
    let there = item_at c.args.instances.now (length c.args.instances.now) c.loop-index.index c.index-instances-index.result refl c.loop-index-test.true c.index-instances-index.is in
    let h = callee_is c.args.models.now c.args.instances.now c.args.node.now c.requires.callees c.loop-index.index c.callee-unit.result c.index-instances-index.result there c.callee-unit.ensures.there in
    let at = item_at c.args.models.now (length c.args.models.now) c.callee-unit.result c.index-models-unit.result refl (slice_get_within c.args.models.now c.callee-unit.result h.0 h.1) c.index-models-unit.is in
    let same : h.0 ≡ c.index-models-unit.result = (let e : Some h.0 ≡ Some c.index-models-unit.result = sym h.1 ∙ at in cc) in
    let called = called_at c.args.models.now c.requires.apart c.callee-unit.result c.index-models-unit.result c.index-instances-index.result.unit at (subst (λ (n : BlifModelData). n.name ≡ c.index-instances-index.result.unit) same h.2) in (
      none_up_to IsWrongFormal line_of_formal name_of_formal (formals_of_instance c.args.models.now) c.args.instances.now c.loop-index.index c.index-instances-index.result there c.loop-index.invariant.0
          (reported_none IsBadFormal (formals_of_instance c.args.models.now c.index-instances-index.result) line_of_formal name_of_formal c.in_ok-report.field-0 c.in_default.not-Some
          (report_of_instance c.args.models.now c.index-instances-index.result c.index-models-unit.result called c.in_ok-report.field-0 c.in_ok-report.ensures)),
      c.in_ok-add_ports.ensures c.args.models.now at c.loop-index.invariant.1,
    )

pub returns-clause-ports : goal.returns-clause-ports
returns-clause-ports c = c.loop-index.invariant.1

pub returns-clause-report : goal.returns-clause-report
returns-clause-report c =
    let whole : length c.args.instances.now ≤ c.loop-index.index = omega (arith, c.loop-index-test.false, c.loop-index.auto.index-end) in
    subst (λ l. NoneHolds IsBadFormal (formals_in c.args.models.now l)) (take_all c.loop-index.index c.args.instances.now whole) c.loop-index.invariant.0
