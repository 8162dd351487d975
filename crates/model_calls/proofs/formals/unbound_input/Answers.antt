use Rattle.std.proofs.Common.{◌≤◌, ◌≡◌, length, true, false, Some, [], ap, refl, sym, ◌∙◌, subst, arith, List, ℕ}
use Rattle.std.specs.Prelude.{slice_get}
use Rattle.std.proofs.lemmas.List.{take_all}
use Rattle.model_calls.proofs.Scans.{take_none}
use Rattle.model_calls.proofs.FormalFaults.{bound_next, first_unbound}
use Rattle.model_calls.proofs.FirstFaults.{item_at}
use Rattle.model_calls.specs.Formals.{IsUnbound}
use Rattle.model_calls.specs.FirstFaults.{NoneHolds}
use Rattle.model_calls.proofs.formals.unbound_input.Goals as goal

pub loop-input-init : goal.loop-input-init
loop-input-init c = λ k e there bad. let z : slice_get {X = List ℕ} [] k ≡ Some e = ap (λ l. slice_get l k) (sym (take_none c.args.inputs.now)) ∙ there in absurd cc

pub returns-then-not-has : goal.returns-then-not-has
returns-then-not-has c =
    let there = item_at c.args.inputs.now (length c.args.inputs.now) c.loop-input.input-index c.input-item.result refl (omega (arith, c.loop-input-test.true, c.loop-input.auto.input-index-end)) c.input-item.is in
    first_unbound c.args.formals.now c.args.inputs.now c.loop-input.input-index c.input-item.result c.args.line c.in_ok-new.field-0.line c.in_ok-new.field-0.name there c.loop-input.invariant
    (λ bound. let t : c.has.result ≡ true = c.has.ensures.1 bound in let f : c.has.result ≡ false = c.if-not-has.true in absurd cc) c.in_ok-new.ensures.0 c.in_ok-new.ensures.1

pub loop-input-preserved : goal.loop-input-preserved
loop-input-preserved c =
    let there = item_at c.args.inputs.now (length c.args.inputs.now) c.loop-input.input-index c.input-item.result refl (omega (arith, c.loop-input-test.true, c.loop-input.auto.input-index-end)) c.input-item.is in
    bound_next c.args.formals.now c.args.inputs.now c.loop-input.input-index c.input-item.result there c.loop-input.invariant (c.has.ensures.0 c.if-not-has.false)

pub returns : goal.returns
returns c =
    let whole : length c.args.inputs.now ≤ c.loop-input.input-index = omega (arith, c.loop-input-test.false, c.loop-input.auto.input-index-end) in
    subst (NoneHolds (IsUnbound c.args.formals.now)) (take_all c.loop-input.input-index c.args.inputs.now whole) c.loop-input.invariant
