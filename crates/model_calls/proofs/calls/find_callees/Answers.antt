use Rattle.std.proofs.Common.{◌≡◌, length, refl, ap, sym, ◌∙◌, Some, subst, arith}
use Rattle.std.specs.Prelude.{Contains, slice_get}
use Rattle.std.proofs.lemmas.Option.{slice_get_within}
use Rattle.blif_ast.specs.InstanceData.{InstanceData}
use Rattle.dom_base.proofs.Lists.{Contains-slice_get}
use Rattle.model_calls.proofs.CallNumbers.{callee_next, first_unknown, known_next}
use Rattle.model_calls.proofs.FirstFaults.{item_at}
use Rattle.model_calls.proofs.calls.find_callees.Goals as goal

pub returns-in_default : goal.returns-in_default
returns-in_default c =
    let there = item_at c.args.instances.now (length c.args.instances.now) c.loop-instance.instance-index c.instance-item.result refl
    (omega (arith, c.loop-instance-test.true, c.loop-instance.auto.instance-index-end)) c.instance-item.is in
    let unit : c.instance.inside.unit ≡ c.instance-item.result.unit = ap (λ (i : InstanceData). i.unit) c.instance.view_is in
    first_unknown c.args.names.now c.args.instances.now c.loop-instance.instance-index c.instance-item.result c.in_ok-new.field-0.line c.in_ok-new.field-0.name there c.loop-instance.invariant.1
    (λ known. c.in_default.ensures (subst (Contains c.args.names.now) (sym unit) known)) (c.in_ok-new.ensures.0 ∙ ap (λ (i : InstanceData). i.line) c.instance.view_is) (c.in_ok-new.ensures.1 ∙ unit)

pub overflow_cast-number : goal.overflow_cast-number
overflow_cast-number c = let l = slice_get_within c.args.names.now c.in-Some.number c.instance.inside.unit c.in-Some.ensures in omega (arith, l, c.requires.few)

pub loop-instance-preserved : goal.loop-instance-preserved
loop-instance-preserved c =
    let there = item_at c.args.instances.now (length c.args.instances.now) c.loop-instance.instance-index c.instance-item.result refl
    (omega (arith, c.loop-instance-test.true, c.loop-instance.auto.instance-index-end)) c.instance-item.is in
    let unit : c.instance.inside.unit ≡ c.instance-item.result.unit = ap (λ (i : InstanceData). i.unit) c.instance.view_is in
    let at : slice_get c.args.names.now c.in-Some.number ≡ Some c.instance-item.result.unit = c.in-Some.ensures ∙ ap Some unit in (
      callee_next c.args.names.now c.args.instances.now c.loop-instance.instance-index c.instance-item.result c.loop-instance.next.items c.push.new.self.items c.in-Some.number there
          c.loop-instance.invariant.0 at c.in_ok-push.ensures.items,
      known_next c.args.names.now c.args.instances.now c.loop-instance.instance-index c.instance-item.result there c.loop-instance.invariant.1
          (Contains-slice_get c.args.names.now c.in-Some.number c.instance-item.result.unit at),
    )
