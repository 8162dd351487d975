use Rattle.std.proofs.Common.{rules, ◌≡◌, ◌<◌, ◌≤◌, length, [], refl, sym, subst, arith}
use Rattle.std.specs.List.{flat_map}
use Rattle.std.proofs.lemmas.List.{take_all}
use Rattle.graph_order.specs.Components.{AreComponents}
use Rattle.model_calls.proofs.FormalFaults.{calls_count}
use Rattle.model_calls.proofs.Recursions.{index_within, no_recursion_in, recursion_in}
use Rattle.model_calls.proofs.FirstFaults.{item_at, none_up_to, reported_at}
use Rattle.model_calls.specs.CallNumbers.{names_of_models}
use Rattle.model_calls.specs.ModelFaults.{IsRecursion, uses_in}
use Rattle.model_calls.specs.Recursions.{IsFirstBack, IsReportOf}
use Rattle.model_calls.specs.FirstFaults.{NoneHolds}
use Rattle.model_calls.proofs.recursion.recursion.Goals as goal

pub first_back-requires : goal.first_back-requires
first_back-requires c = record {
  graph = c.requires.graph;
  components = subst (AreComponents c.args.nodes.now) (sym c.deref.ensures.value) (c.in_ok-numbers.ensures {u = tt});
  within = omega (arith, c.loop-index-test.true, calls_count (names_of_models c.args.models.now) c.args.models.now c.args.nodes.now c.requires.calls);
}

pub report_instance-requires : goal.report_instance-requires
report_instance-requires c =
    let there = item_at c.args.models.now (length c.args.models.now) c.loop-index.index c.index-models-index.result refl c.loop-index-test.true c.index-models-index.is in
    let same : c.index-models-index.result.instances ≡ c.deref-in-Some.result.now = search rules in
    let l = index_within c.args.models.now c.args.nodes.now c.requires.apart c.requires.calls c.loop-index.index c.index-models-index.result there c.in-Some.at
    (subst (IsFirstBack c.args.nodes.now c.loop-index.index) c.in-Some.is c.first_back.ensures) in
    record { within = subst (λ is. c.in-Some.at < length is) same l }

pub returns-in-Some : goal.returns-in-Some
returns-in-Some c =
    let there = item_at c.args.models.now (length c.args.models.now) c.loop-index.index c.index-models-index.result refl c.loop-index-test.true c.index-models-index.is in
    let same : c.deref-in-Some.result.now ≡ c.index-models-index.result.instances = search rules in
    let h = subst (λ is. IsReportOf is c.in-Some.at c.in_ok-report.report) same c.in_ok-report.ensures in
    reported_at (IsRecursion (record { models = c.args.models.now }) []) (λ u. u.instance.line) (λ u. u.instance.unit) uses_in c.args.models.now c.loop-index.index c.index-models-index.result there
    c.in_ok-report.report.line c.in_ok-report.report.name c.loop-index.invariant
    (recursion_in c.args.models.now c.args.nodes.now c.requires.apart c.requires.calls c.loop-index.index c.index-models-index.result there c.in-Some.at h.0 c.in_ok-report.report.line c.in_ok-report.report.name
    (subst (IsFirstBack c.args.nodes.now c.loop-index.index) c.in-Some.is c.first_back.ensures) h.1 h.2 h.3)

pub loop-index-init : goal.loop-index-init
loop-index-init c = λ k e there bad. absurd cc

pub loop-index-preserved : goal.loop-index-preserved
loop-index-preserved c =
    let there = item_at c.args.models.now (length c.args.models.now) c.loop-index.index c.index-models-index.result refl c.loop-index-test.true c.index-models-index.is in
    none_up_to (IsRecursion (record { models = c.args.models.now }) []) (λ u. u.instance.line) (λ u. u.instance.unit) uses_in c.args.models.now c.loop-index.index c.index-models-index.result there
    c.loop-index.invariant
    (no_recursion_in c.args.models.now c.args.nodes.now c.requires.apart c.requires.calls c.loop-index.index c.index-models-index.result there
    (subst (IsFirstBack c.args.nodes.now c.loop-index.index) c.in_default.is c.first_back.ensures))

pub returns : goal.returns
returns c =
    let whole : length c.args.models.now ≤ c.loop-index.index = omega (arith, c.loop-index-test.false, c.loop-index.auto.index-end) in
    subst (λ l. NoneHolds (IsRecursion (record { models = c.args.models.now })) (flat_map uses_in l)) (take_all c.loop-index.index c.args.models.now whole) c.loop-index.invariant
