use Rattle.std.proofs.Common.{◌≡◌, ◌∷◌, ◌++◌, [], ap, rules}
use Rattle.blif_ast.specs.InstanceData.{InstanceData}
use Rattle.blif_ast.proofs.CardLines.{instance_end}
use Rattle.blif_ast.proofs.cards.put_instance.Goals as goal

pub returns-in_ok-put_binding-in-Some : goal.returns-in_ok-put_binding-in-Some
returns-in_ok-put_binding-in-Some c =
    let same = ap (λ (i : InstanceData). i.bindings) c.instance.view_is in
    let bound : c.args.instance.now.bindings ≡ c.in-Some.others.now ++ c.in-Some.last.now ∷ [] = cc (same, c.deref.ensures.value, c.in-Some.ensures.cases.0) in
    search (rules, instance_end c.args.text.now.items c.args.instance.now.unit c.args.instance.now.bindings c.in-Some.others.now c.in-Some.last.now bound)
