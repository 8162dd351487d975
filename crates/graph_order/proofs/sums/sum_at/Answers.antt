use Rattle.std.proofs.Common.{◌≡◌, ◌+◌, min, [], Some, ap, sym, ◌∙◌, rules, arith}
use Rattle.std.specs.List.{sum_by}
use Rattle.std.specs.Prelude.{slice_index_or}
use Rattle.std.proofs.lemmas.List.{take_all}
use Rattle.std.proofs.lemmas.Option.{slice_get-get_or}
use Rattle.graph_order.specs.Orders.{successors}
use Rattle.graph_order.specs.WalkSums.{largest_u64}
use Rattle.graph_order.proofs.WalkSums.{total_begins, total_next}
use Rattle.graph_order.proofs.sums.sum_at.Goals as goal

pub bounds-weights-node : goal.bounds-weights-node
bounds-weights-node c = omega (arith, c.requires.within, c.requires.weights)

pub loop-k-init : goal.loop-k-init
loop-k-init c = total_begins (λ next. slice_index_or c.args.sums.now next 0) c.next-next.result.now (c.type_inv.weights c.args.node).fits

pub loop-k-preserved : goal.loop-k-preserved
loop-k-preserved c =
    let next = total_next (λ next. slice_index_or c.args.sums.now next 0) c.next-next.result.now c.loop-k.k-index (slice_index_or c.args.weights.now c.args.node 0)
    (slice_get-get_or c.next-next.result.now c.loop-k.k-index 0 (omega (arith, c.loop-k-test.true))) c.loop-k.invariant in
    search (rules, next)

pub returns : goal.returns
returns c =
    c.loop-k.invariant
    ∙ ap (λ l. min (slice_index_or c.args.weights.now c.args.node 0 + sum_by (λ next. slice_index_or c.args.sums.now next 0) l) largest_u64)
    (take_all c.loop-k.k-index c.next-next.result.now (omega (arith, c.loop-k-test.false)) ∙ c.next-next.ensures ∙ sym same)
  where
    same : successors c.args.nodes.now c.args.node ≡ c.index-nodes-node.result
    same =
        let e : Some (successors c.args.nodes.now c.args.node) ≡ Some (slice_index_or c.args.nodes.now c.args.node c.index-nodes-node.result) =
        sym (slice_get-get_or c.args.nodes.now c.args.node [] c.requires.within) ∙ slice_get-get_or c.args.nodes.now c.args.node c.index-nodes-node.result c.requires.within in
        let i : successors c.args.nodes.now c.args.node ≡ slice_index_or c.args.nodes.now c.args.node c.index-nodes-node.result = cc in
        i ∙ sym c.index-nodes-node.is
