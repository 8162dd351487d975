use Rattle.std.proofs.Common.{length, refl, ap, arith}
use Rattle.blif_ast.specs.BlifModelData.{BlifModelData}
use Rattle.model_calls.proofs.CallNumbers.{all_named, named_next}
use Rattle.model_calls.proofs.FirstFaults.{item_at}
use Rattle.model_calls.proofs.calls.name_models.Goals as goal

pub loop-model-preserved : goal.loop-model-preserved
loop-model-preserved c =
    let there = item_at c.args.models.now (length c.args.models.now) c.loop-model.model-index c.model-item.result refl (omega (arith, c.loop-model-test.true, c.loop-model.auto.model-index-end)) c.model-item.is in
    named_next c.args.models.now c.loop-model.model-index c.model-item.result c.loop-model.names c.add.new.self c.in_ok-new.field-0-0 c.in_ok-new.new c.model.inside.name
    (ap (λ (m : BlifModelData). m.name) c.model.view_is) there c.loop-model.invariant c.if-not-new.false c.in_ok-new.ensures

pub returns : goal.returns
returns c = all_named c.args.models.now c.loop-model.model-index c.loop-model.names (omega (arith, c.loop-model-test.false, c.loop-model.auto.model-index-end)) c.loop-model.invariant
