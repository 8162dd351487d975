use Rattle.std.proofs.Common.{◌≡◌, ℕ, ◌<◌, ◌≤◌, ◌+◌, min, Global, List, Vec, length, set, Some, ap, sym, ◌∙◌, subst, rules, arith}
use Rattle.std.specs.List.{sum_by}
use Rattle.std.specs.Prelude.{slice_get, slice_index_or}
use Rattle.std.proofs.lemmas.List.{length-set, take_all}
use Rattle.std.proofs.lemmas.Option.{slice_get-get_or}
use Rattle.std.specs.Vec.{vec_len}
use Rattle.graph_order.specs.Orders.{successors}
use Rattle.graph_order.specs.WalkSums.{AreSumsTo, largest_u64}
use Rattle.graph_order.proofs.WalkSums.{sums_begin, sums_end, sums_next, sums_skip}
use Rattle.graph_order.proofs.sums.walk_sums.Goals as goal
use Rattle.graph_order.proofs.sums.walk_sums.Goals.{then-at-len, else-at-len}

pub loop-node-init : goal.loop-node-init
loop-node-init c =
    let same : length c.loop-weight.sums.items ≡ length c.args.nodes.now =
    ap length (c.loop-weight.invariant ∙ take_all c.loop-weight.weight-index c.args.weights.now (omega (arith, c.loop-weight-test.false))) ∙ c.requires.count in
    (same, λ weight weigh. sums_begin c.requires.ordered weigh same)

pub sum_at-sum-requires : goal.sum_at-sum-requires
sum_at-sum-requires c =
    let known : length c.deref.result.now ≡ length c.args.nodes.now = ap length c.deref.ensures.value ∙ c.loop-node.invariant.0 in
    record {
      graph = c.requires.graph;
      within = omega (arith, c.if-at-len.true, c.len.ensures, c.deref.ensures.len, known);
      sums = known;
      weights = c.requires.count;
    }

pub loop-node-preserved : goal.loop-node-preserved
loop-node-preserved c = elim c.if-at-len.branch [
  | then-at-len w ↦ (
      let is : c.if-at-len.sums.items ≡ set c.loop-node.sums.items node (value c.loop-node.sums.items) =
      ap (λ (v : Vec ℕ Global). v.items) w.sums-is
      ∙ ap (set c.loop-node.sums.items node) (w.sum_at-sum.ensures ∙ ap value w.deref.ensures.value) in
      let within : node < length c.args.nodes.now = omega (arith, w.if-at-len.true, c.len.ensures, w.deref.ensures.len, ap length w.deref.ensures.value, c.loop-node.invariant.0) in (
        ap length is ∙ length-set c.loop-node.sums.items node (value c.loop-node.sums.items) ∙ c.loop-node.invariant.0,
        λ weight weigh. subst (AreSumsTo c.args.nodes.now weight c.args.order.now (c.loop-node.node-index + 1)) (sym is)
            (sums_next c.requires.ordered weigh c.requires.graph there within (c.loop-node.invariant.1 weight weigh)),
      )
      )
  | else-at-len w ↦ (
      let is : c.if-at-len.sums.items ≡ c.loop-node.sums.items = ap (λ (v : Vec ℕ Global). v.items) w.sums-is in
      let count : vec_len c.loop-node.sums ≡ length c.loop-node.sums.items = search rules in
      let past : length c.loop-node.sums.items ≤ node = omega (arith, w.if-at-len.false, c.len.ensures, count) in (
        ap length is ∙ c.loop-node.invariant.0,
        λ weight weigh. subst (AreSumsTo c.args.nodes.now weight c.args.order.now (c.loop-node.node-index + 1)) (sym is)
            (sums_skip c.requires.ordered weigh there past (c.loop-node.invariant.1 weight weigh)),
      )
      )
]
  where
    node : ℕ
    node = slice_index_or c.args.order.now c.loop-node.node-index 0

    value : List ℕ → ℕ
    value sums = min (slice_index_or c.args.weights.now node 0 + sum_by (λ next. slice_index_or sums next 0) (successors c.args.nodes.now node)) largest_u64

    there : slice_get c.args.order.now c.loop-node.node-index ≡ Some node
    there = slice_get-get_or c.args.order.now c.loop-node.node-index 0 (omega (arith, c.loop-node-test.true))

pub returns : goal.returns
returns c = λ weight weigh. sums_end c.requires.ordered weigh (omega (arith, c.loop-node-test.false)) (c.loop-node.invariant.1 weight weigh)
