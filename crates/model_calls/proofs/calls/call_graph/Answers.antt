use Rattle.std.proofs.Common.{rules, ◌≡◌, length, refl, subst, arith}
use Rattle.model_calls.proofs.CallNumbers.{calls_next, known_uses_next, unknown_use_at}
use Rattle.model_calls.proofs.FirstFaults.{item_at}
use Rattle.model_calls.specs.CallNumbers.{IsCallees}
use Rattle.model_calls.proofs.calls.call_graph.Goals as goal

pub returns-in-Unknown : goal.returns-in-Unknown
returns-in-Unknown c =
    let there = item_at c.args.models.now (length c.args.models.now) c.loop-model.model-index c.model-item.result refl (omega (arith, c.loop-model-test.true, c.loop-model.auto.model-index-end)) c.model-item.is in
    let same : c.deref.result.now ≡ c.model-item.result.instances = search rules in
    unknown_use_at c.args.names.now c.args.models.now c.loop-model.model-index c.model-item.result there c.in-Unknown.report.line c.in-Unknown.report.name c.loop-model.invariant.1
    (subst (IsCallees c.args.names.now c.model-item.result.instances) c.in-Unknown.is (subst (λ instances. IsCallees c.args.names.now instances c.in_ok-node.field-0) same c.in_ok-node.ensures))

pub loop-model-preserved : goal.loop-model-preserved
loop-model-preserved c =
    let there = item_at c.args.models.now (length c.args.models.now) c.loop-model.model-index c.model-item.result refl (omega (arith, c.loop-model-test.true, c.loop-model.auto.model-index-end)) c.model-item.is in
    let same : c.deref.result.now ≡ c.model-item.result.instances = search rules in
    let callees = subst (IsCallees c.args.names.now c.model-item.result.instances) c.in-Known.is (subst (λ instances. IsCallees c.args.names.now instances c.in_ok-node.field-0) same c.in_ok-node.ensures) in (
      calls_next c.args.names.now c.args.models.now c.loop-model.model-index c.model-item.result there c.loop-model.nodes.items c.push.new.self.items c.in-Known.node c.loop-model.invariant.0 callees
          c.in_ok-push-in-Known.ensures.items,
      known_uses_next c.args.names.now c.args.models.now c.loop-model.model-index c.model-item.result there c.in-Known.node c.loop-model.invariant.1 callees,
    )
