use Rattle.std.proofs.Common.{◌≤◌, length, refl, subst, arith}
use Rattle.std.proofs.lemmas.List.{take_all}
use Rattle.model_calls.proofs.FormalFaults.{callees_count, calls_at, calls_count}
use Rattle.model_calls.proofs.ModelPlans.{have_no_plans, have_plans_next}
use Rattle.model_calls.proofs.FirstFaults.{item_at}
use Rattle.model_calls.specs.CallNumbers.{names_of_models}
use Rattle.model_calls.specs.ModelCalls.{HavePlans}
use Rattle.model_calls.proofs.models.plan_all.Goals as goal

pub loop-index-init : goal.loop-index-init
loop-index-init c = have_no_plans c.args.models.now c.args.nodes.now c.in_ok-plans.plans.items c.in_ok-plans.ensures.items

pub bounds-nodes-index : goal.bounds-nodes-index
bounds-nodes-index c = omega (arith, c.loop-index-test.true, calls_count (names_of_models c.args.models.now) c.args.models.now c.args.nodes.now c.requires.calls)

pub plan_model-requires : goal.plan_model-requires
plan_model-requires c =
    let there = item_at c.args.models.now (length c.args.models.now) c.loop-index.index c.index-models-index.result refl c.loop-index-test.true c.index-models-index.is in
    let few = calls_count (names_of_models c.args.models.now) c.args.models.now c.args.nodes.now c.requires.calls in
    let at = item_at c.args.nodes.now (length c.args.nodes.now) c.loop-index.index c.index-nodes-index.result refl (omega (arith, c.loop-index-test.true, few)) c.index-nodes-index.is in
    record {
      tables = c.is_numbered.ensures.tables c.if-not-is_numbered.false;
      latches = c.is_numbered.ensures.latches c.if-not-is_numbered.false;
      instances = c.is_numbered.ensures.instances c.if-not-is_numbered.false;
      callees = callees_count (names_of_models c.args.models.now) c.index-models-index.result.instances c.index-nodes-index.result
          (calls_at (names_of_models c.args.models.now) c.args.models.now c.args.nodes.now c.requires.calls c.loop-index.index c.index-models-index.result c.index-nodes-index.result there at);
    }

pub loop-index-preserved : goal.loop-index-preserved
loop-index-preserved c =
    let there = item_at c.args.models.now (length c.args.models.now) c.loop-index.index c.index-models-index.result refl c.loop-index-test.true c.index-models-index.is in
    let few = calls_count (names_of_models c.args.models.now) c.args.models.now c.args.nodes.now c.requires.calls in
    let at = item_at c.args.nodes.now (length c.args.nodes.now) c.loop-index.index c.index-nodes-index.result refl (omega (arith, c.loop-index-test.true, few)) c.index-nodes-index.is in
    have_plans_next c.args.models.now c.args.nodes.now c.loop-index.index c.index-models-index.result c.index-nodes-index.result c.loop-index.plans.items c.push.new.self.items c.in_ok-plan_model.field-0
    there at c.loop-index.invariant c.in_ok-plan_model.ensures c.in_ok-push.ensures.items

pub returns : goal.returns
returns c =
    let whole : length c.args.models.now ≤ c.loop-index.index = omega (arith, c.loop-index-test.false, c.loop-index.auto.index-end) in
    subst (λ l. HavePlans l c.args.nodes.now c.loop-index.plans.items) (take_all c.loop-index.index c.args.models.now whole) c.loop-index.invariant
