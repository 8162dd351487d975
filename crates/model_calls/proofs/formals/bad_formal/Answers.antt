use Rattle.std.proofs.Common.{rules, ◌≡◌, ◌≤◌, length, refl, subst, arith}
use Rattle.std.specs.List.{flat_map}
use Rattle.std.proofs.lemmas.List.{take_all}
use Rattle.model_calls.proofs.FormalFaults.{calls_at, calls_count, have_no_ports}
use Rattle.model_calls.proofs.FirstFaults.{item_at, none_up_to, reported_at, reported_none, reported_some}
use Rattle.model_calls.specs.CallNumbers.{AreCallees, names_of_models}
use Rattle.model_calls.specs.Formals.{formals_in, formals_in_model}
use Rattle.model_calls.specs.ModelFaults.{IsBadFormal, IsWrongFormal, line_of_formal, name_of_formal}
use Rattle.model_calls.specs.FirstFaults.{IsFirstFaultIn, NoneHolds}
use Rattle.model_calls.proofs.formals.bad_formal.Goals as goal

pub bounds-nodes-index : goal.bounds-nodes-index
bounds-nodes-index c = omega (arith, c.loop-index-test.true, calls_count (names_of_models c.args.models.now) c.args.models.now c.args.nodes.now c.requires.calls)

pub bad_in_model-requires : goal.bad_in_model-requires
bad_in_model-requires c =
    let there = item_at c.args.models.now (length c.args.models.now) c.loop-index.index c.index-models-index.result refl c.loop-index-test.true c.index-models-index.is in
    let few = calls_count (names_of_models c.args.models.now) c.args.models.now c.args.nodes.now c.requires.calls in
    let at = item_at c.args.nodes.now (length c.args.nodes.now) c.loop-index.index c.index-nodes-index.result refl (omega (arith, c.loop-index-test.true, few)) c.index-nodes-index.is in
    let same : c.index-models-index.result.instances ≡ c.deref.result.now = search rules in
    record {
      apart = c.requires.apart;
      ports = c.loop-index.invariant.1;
      callees = subst (λ l. AreCallees (names_of_models c.args.models.now) l c.index-nodes-index.result) same
          (calls_at (names_of_models c.args.models.now) c.args.models.now c.args.nodes.now c.requires.calls c.loop-index.index c.index-models-index.result c.index-nodes-index.result there at);
    }

pub returns-in-Some : goal.returns-in-Some
returns-in-Some c =
    let there = item_at c.args.models.now (length c.args.models.now) c.loop-index.index c.index-models-index.result refl c.loop-index-test.true c.index-models-index.is in
    let same : c.deref.result.now ≡ c.index-models-index.result.instances = search rules in
    let report = subst (λ l. IsFirstFaultIn IsBadFormal (formals_in c.args.models.now l) line_of_formal name_of_formal c.in_ok-report.field-0) same c.in_ok-report.ensures.report in
    reported_at IsWrongFormal line_of_formal name_of_formal (formals_in_model c.args.models.now) c.args.models.now c.loop-index.index c.index-models-index.result there c.in-Some.report.line c.in-Some.report.name
    c.loop-index.invariant.0
    (reported_some IsBadFormal (formals_in_model c.args.models.now c.index-models-index.result) line_of_formal name_of_formal c.in_ok-report.field-0 c.in-Some.report c.in-Some.is report)

pub loop-index-init : goal.loop-index-init
loop-index-init c = (λ k e there bad. absurd cc, have_no_ports c.args.models.now c.new-tables.result c.new-tables.ensures.empty)

pub loop-index-preserved : goal.loop-index-preserved
loop-index-preserved c =
    let there = item_at c.args.models.now (length c.args.models.now) c.loop-index.index c.index-models-index.result refl c.loop-index-test.true c.index-models-index.is in
    let same : c.deref.result.now ≡ c.index-models-index.result.instances = search rules in
    let report = subst (λ l. IsFirstFaultIn IsBadFormal (formals_in c.args.models.now l) line_of_formal name_of_formal c.in_ok-report.field-0) same c.in_ok-report.ensures.report in (
      none_up_to IsWrongFormal line_of_formal name_of_formal (formals_in_model c.args.models.now) c.args.models.now c.loop-index.index c.index-models-index.result there c.loop-index.invariant.0
          (reported_none IsBadFormal (formals_in_model c.args.models.now c.index-models-index.result) line_of_formal name_of_formal c.in_ok-report.field-0 c.in_default.not-Some report),
      c.in_ok-report.ensures.ports,
    )

pub returns : goal.returns
returns c =
    let whole : length c.args.models.now ≤ c.loop-index.index = omega (arith, c.loop-index-test.false, c.loop-index.auto.index-end) in
    subst (λ l. NoneHolds IsBadFormal (flat_map (formals_in_model c.args.models.now) l)) (take_all c.loop-index.index c.args.models.now whole) c.loop-index.invariant.0
