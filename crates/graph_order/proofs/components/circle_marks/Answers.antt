use Rattle.std.proofs.Common.{◌≡◌, ◌<◌, ◌∷◌, ◌++◌, [], length, Some, ap, sym, ◌∙◌, subst, arith}
use Rattle.std.specs.Prelude.{◌↔◌, IsTrue, slice_get}
use Rattle.std.proofs.lemmas.Option.{get_or_from_slice_get, slice_get-get_or}
use Rattle.graph_order.specs.Components.{AreComponents, HasOneOf}
use Rattle.graph_order.specs.Orders.{successors}
use Rattle.graph_order.proofs.CircleMarks.{AreMarksBelow, next_mark, on_circle}
use Rattle.graph_order.proofs.components.circle_marks.Goals as goal

pub loop-k-preserved : goal.loop-k-preserved
loop-k-preserved c =
    let pushed : c.push.new.self.items ≡ c.loop-k.marks.items ++ c.has_one_of.result ∷ [] = c.in_ok-push.ensures.items in
    let numbers : c.in_ok-numbers.numbers.items ≡ c.deref.result.now = sym c.deref.ensures.value in
    let are : AreComponents c.args.nodes.now c.deref.result.now = subst (AreComponents c.args.nodes.now) numbers
    (c.in_ok-numbers.ensures {u = tt}) in
    let within : c.loop-k.k < length c.in_ok-numbers.numbers.items = omega (arith, c.loop-k-test.true, are.count, ap length numbers) in
    let at : slice_get c.deref.result.now c.loop-k.k ≡ Some c.index.result.now =
    subst (λ l. slice_get l c.loop-k.k ≡ Some c.index.result.now) numbers
    (slice_get-get_or c.in_ok-numbers.numbers.items c.loop-k.k c.index.result.now within ∙ ap Some (sym c.index.ensures)) in
    let node : slice_get c.args.nodes.now c.loop-k.k ≡ Some c.index-nodes-k.result =
    slice_get-get_or c.args.nodes.now c.loop-k.k c.index-nodes-k.result c.loop-k-test.true ∙ ap Some (sym c.index-nodes-k.is) in
    let next : c.next.result.now ≡ successors c.args.nodes.now c.loop-k.k =
    c.next.ensures
    ∙ sym (get_or_from_slice_get c.args.nodes.now c.loop-k.k c.index-nodes-k.result [] node) in
    let circle = on_circle c.args.nodes.now c.deref.result.now c.index.result.now c.loop-k.k c.requires.graph are at in
    let has = subst (λ l. IsTrue c.has_one_of.result ↔ HasOneOf c.deref.result.now c.index.result.now l) next c.has_one_of.ensures in
    subst (AreMarksBelow c.args.nodes.now _) (sym pushed)
    (next_mark c.args.nodes.now c.loop-k.k c.loop-k.marks.items c.has_one_of.result c.loop-k.invariant
    ((λ t. circle.0 (has.0 t)), λ lead. has.1 (circle.1 lead)))
