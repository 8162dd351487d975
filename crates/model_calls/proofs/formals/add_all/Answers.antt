use Rattle.std.proofs.Common.{◌≤◌, ◌++◌, ◌∙◌, length, refl, ap, sym, subst, arith, append-nil}
use Rattle.std.proofs.lemmas.List.{take_all}
use Rattle.model_calls.proofs.FirstFaults.{item_at}
use Rattle.model_calls.proofs.Scans.{firsts_next, take_none}
use Rattle.model_calls.specs.Scans.{AreFirsts}
use Rattle.model_calls.proofs.formals.add_all.Goals as goal

pub loop-name-init : goal.loop-name-init
loop-name-init c = λ seen firsts. subst (λ all. AreFirsts all c.args.names.now) (sym (ap (λ l. seen ++ l) (take_none c.args.list.now) ∙ append-nil seen)) firsts

pub loop-name-preserved : goal.loop-name-preserved
loop-name-preserved c =
    let there = item_at c.args.list.now (length c.args.list.now) c.loop-name.name-index c.name-item.result refl (omega (arith, c.loop-name-test.true, c.loop-name.auto.name-index-end)) c.name-item.is in
    λ seen firsts. firsts_next seen c.args.list.now c.loop-name.names c.add.new.self c.loop-name.name-index c.name-item.result c.in_ok-add.field-0.0 c.in_ok-add.field-0.1 there
    (c.loop-name.invariant seen firsts) c.in_ok-add.ensures

pub returns : goal.returns
returns c =
    let whole : length c.args.list.now ≤ c.loop-name.name-index = omega (arith, c.loop-name-test.false, c.loop-name.auto.name-index-end) in
    λ seen firsts. subst (λ l. AreFirsts (seen ++ l) c.loop-name.names) (take_all c.loop-name.name-index c.args.list.now whole) (c.loop-name.invariant seen firsts)
