use Rattle.std.proofs.Common.{◌≡◌, ℕ, List, length, Bool, false, true, ap, sym, subst, arith}
use Rattle.graph_order.specs.Orders.{IsOrder}
use Rattle.graph_order.specs.Traversals.{IsDoneBelow, IsVisit, HasVisited, TraversalData}
use Rattle.graph_order.proofs.Traversals.{done_in_order, visited_below}
use Rattle.graph_order.proofs.order.put_in_order.Goals as goal

visited : (nodes : List (List ℕ)) (n : ℕ) (before after : TraversalData) (b : Bool) → b ≡ false → IsVisit nodes n before after b → HasVisited nodes n before after
visited nodes n before after true e h = absurd cc
visited nodes n before after false e h = h

pub loop-k-preserved : goal.loop-k-preserved
loop-k-preserved c = visited_below c.args.nodes.now c.loop-k.k c.loop-k.traversal c.visit.new.self c.loop-k.invariant
    (visited c.args.nodes.now c.loop-k.k c.loop-k.traversal c.visit.new.self c.in_ok-visit.field-0 c.if-branch.false c.in_ok-visit.ensures)

pub returns : goal.returns
returns c =
    let all : c.loop-k.k ≡ length c.args.nodes.now = omega (arith, c.loop-k-test.false, c.loop-k.auto.k-end) in
    subst (IsOrder c.args.nodes.now) (ap (λ (w : TraversalData). w.done) (sym c.traversal-2.view_is))
    (done_in_order c.args.nodes.now c.loop-k.traversal (subst (λ n. IsDoneBelow c.args.nodes.now n c.loop-k.traversal) all c.loop-k.invariant))
