-- From no decisions to all, a pair at a time.
use Rattle.std.proofs.Common.{◌≡◌, ◌∙◌, ◌-◌, ◌<◌, suc, ap, sym, subst, length, slice_set, vec_len, arith, rules}
use Rattle.std.proofs.lemmas.List.{length-replicate, length-set}
use Rattle.dual_rail.specs.ForestData.{ForestData}
use Rattle.dual_rail.specs.ForestOrder.{IsForest}
use Rattle.dual_rail.specs.Forests.{left_arm, right_arm}
use Rattle.tree_map.specs.Plans.{is_kept}
use Rattle.tree_map.specs.Ties.{kept_with, shapes_with}
use Rattle.dual_rail.proofs.ForestOrders.{reads_later}
use Rattle.tree_map.proofs.FirstOffers.{pair_read}
use Rattle.tree_map.proofs.DecidedLists.{all_decided, all_marked, kept_length, kept_sum_at, none_decided, pair_decided, shape_in, shapes_length}
use Rattle.compound_plan.proofs.PlanStates.{State}
use Rattle.tree_map.proofs.ties.decisions.Goals as goal

pub loop-place-init : goal.loop-place-init
loop-place-init c =
    let forest = subst IsForest c.forest.view_is c.forest.invariant in
    let pairs_are = ap (λ (g : ForestData). g.pairs) c.forest.view_is in
    let len : vec_len c.forest.inside.pairs ≡ length c.forest.inside.pairs.items = search rules in
    let count : c.len-place.result ≡ length c.args.forest.now.pairs = c.len-place.ensures ∙ len ∙ ap length pairs_are in
    let kept = c.in_ok-decisions.ensures.kept in
    let split = c.in_ok-decisions.ensures.split in
    let shapes = c.in_ok-decisions.ensures.shapes in
    let same : c.len.result ≡ length c.args.forest.now.pairs = c.len.ensures ∙ len ∙ ap length pairs_are in
    record {
      kept_count = ap length kept ∙ length-replicate _ _ ∙ same;
      split_count = ap length split ∙ length-replicate _ _ ∙ same;
      shapes_count = ap length shapes ∙ length-replicate _ _ ∙ same;
      state = none_decided c.args.sums.now.costs c.args.forest.now c.args.sums.now.w c.args.sums.now.h c.requires.width.0 c.requires.height.0 forest.in_place.in_order c.len-place.result c.len.result
          c.in_ok-decisions.decisions.kept.items c.in_ok-decisions.decisions.split.items c.in_ok-decisions.decisions.shapes.items count kept split shapes;
    }

pub decision_of-requires-clause-kept : goal.decision_of-requires-clause-kept
decision_of-requires-clause-kept c = λ s e.
    let forest = subst IsForest c.forest.view_is c.forest.invariant in
    let pairs_are = ap (λ (g : ForestData). g.pairs) c.forest.view_is in
    let len : vec_len c.forest.inside.pairs ≡ length c.forest.inside.pairs.items = search rules in
    let count : c.len-place.result ≡ length c.args.forest.now.pairs = c.len-place.ensures ∙ len ∙ ap length pairs_are in
    let one : c.loop-place.place ≡ suc (c.loop-place.place - 1) = omega (arith, c.loop-place-test.true) in
    let lt : c.loop-place.place - 1 < length c.args.forest.now.pairs = omega (arith, c.loop-place-test.true, c.loop-place.auto.place, count) in
    kept_sum_at c.args.forest.now c.args.sums.now c.requires.width.0 c.requires.height.0 forest.in_place.in_order c.loop-place.decisions.kept.items c.loop-place.decisions.split.items c.loop-place.decisions.shapes.items
    c.loop-place.invariant.kept_count c.loop-place.invariant.split_count c.loop-place.invariant.shapes_count (c.loop-place.place - 1)
    (subst (λ n. State c.args.sums.now.costs c.args.forest.now c.args.sums.now.w c.args.sums.now.h n (is_kept c.loop-place.decisions.kept.items) (is_kept c.loop-place.decisions.split.items) (shape_in c.loop-place.decisions.shapes.items)) one c.loop-place.invariant.state)
    lt c.requires.sums c.kept_shape-kept.result c.kept_shape-kept.ensures s e

pub decide-requires-clause-left_kept : goal.decide-requires-clause-left_kept
decide-requires-clause-left_kept c =
    let forest = subst IsForest c.forest.view_is c.forest.invariant in
    let pairs_are = ap (λ (g : ForestData). g.pairs) c.forest.view_is in
    let len : vec_len c.forest.inside.pairs ≡ length c.forest.inside.pairs.items = search rules in
    let count : c.len-place.result ≡ length c.args.forest.now.pairs = c.len-place.ensures ∙ len ∙ ap length pairs_are in
    let one : c.loop-place.place ≡ suc (c.loop-place.place - 1) = omega (arith, c.loop-place-test.true) in
    let lt : c.loop-place.place - 1 < length c.args.forest.now.pairs = omega (arith, c.loop-place-test.true, c.loop-place.auto.place, count) in
    let at = pair_read c.args.forest.now c.forest.inside.pairs.items pairs_are (c.loop-place.place - 1) c.index.result.now lt c.index.ensures in
    reads_later (c.loop-place.place - 1) (length c.loop-place.decisions.kept.items) (left_arm c.index.result.now) (forest.in_place.in_order (c.loop-place.place - 1) c.index.result.now at).0
    (omega (arith, lt, c.loop-place.invariant.kept_count))

pub decide-requires-clause-right_kept : goal.decide-requires-clause-right_kept
decide-requires-clause-right_kept c =
    let forest = subst IsForest c.forest.view_is c.forest.invariant in
    let pairs_are = ap (λ (g : ForestData). g.pairs) c.forest.view_is in
    let len : vec_len c.forest.inside.pairs ≡ length c.forest.inside.pairs.items = search rules in
    let count : c.len-place.result ≡ length c.args.forest.now.pairs = c.len-place.ensures ∙ len ∙ ap length pairs_are in
    let one : c.loop-place.place ≡ suc (c.loop-place.place - 1) = omega (arith, c.loop-place-test.true) in
    let lt : c.loop-place.place - 1 < length c.args.forest.now.pairs = omega (arith, c.loop-place-test.true, c.loop-place.auto.place, count) in
    let at = pair_read c.args.forest.now c.forest.inside.pairs.items pairs_are (c.loop-place.place - 1) c.index.result.now lt c.index.ensures in
    reads_later (c.loop-place.place - 1) (length c.loop-place.decisions.kept.items) (right_arm c.index.result.now) (forest.in_place.in_order (c.loop-place.place - 1) c.index.result.now at).1
    (omega (arith, lt, c.loop-place.invariant.kept_count))

pub decide-requires-clause-left_shapes : goal.decide-requires-clause-left_shapes
decide-requires-clause-left_shapes c =
    let forest = subst IsForest c.forest.view_is c.forest.invariant in
    let pairs_are = ap (λ (g : ForestData). g.pairs) c.forest.view_is in
    let len : vec_len c.forest.inside.pairs ≡ length c.forest.inside.pairs.items = search rules in
    let count : c.len-place.result ≡ length c.args.forest.now.pairs = c.len-place.ensures ∙ len ∙ ap length pairs_are in
    let one : c.loop-place.place ≡ suc (c.loop-place.place - 1) = omega (arith, c.loop-place-test.true) in
    let lt : c.loop-place.place - 1 < length c.args.forest.now.pairs = omega (arith, c.loop-place-test.true, c.loop-place.auto.place, count) in
    let at = pair_read c.args.forest.now c.forest.inside.pairs.items pairs_are (c.loop-place.place - 1) c.index.result.now lt c.index.ensures in
    reads_later (c.loop-place.place - 1) (length c.loop-place.decisions.shapes.items) (left_arm c.index.result.now) (forest.in_place.in_order (c.loop-place.place - 1) c.index.result.now at).0
    (omega (arith, lt, c.loop-place.invariant.shapes_count))

pub decide-requires-clause-right_shapes : goal.decide-requires-clause-right_shapes
decide-requires-clause-right_shapes c =
    let forest = subst IsForest c.forest.view_is c.forest.invariant in
    let pairs_are = ap (λ (g : ForestData). g.pairs) c.forest.view_is in
    let len : vec_len c.forest.inside.pairs ≡ length c.forest.inside.pairs.items = search rules in
    let count : c.len-place.result ≡ length c.args.forest.now.pairs = c.len-place.ensures ∙ len ∙ ap length pairs_are in
    let one : c.loop-place.place ≡ suc (c.loop-place.place - 1) = omega (arith, c.loop-place-test.true) in
    let lt : c.loop-place.place - 1 < length c.args.forest.now.pairs = omega (arith, c.loop-place-test.true, c.loop-place.auto.place, count) in
    let at = pair_read c.args.forest.now c.forest.inside.pairs.items pairs_are (c.loop-place.place - 1) c.index.result.now lt c.index.ensures in
    reads_later (c.loop-place.place - 1) (length c.loop-place.decisions.shapes.items) (right_arm c.index.result.now) (forest.in_place.in_order (c.loop-place.place - 1) c.index.result.now at).1
    (omega (arith, lt, c.loop-place.invariant.shapes_count))

pub decide-requires-clause-marks : goal.decide-requires-clause-marks
decide-requires-clause-marks c =
    let forest = subst IsForest c.forest.view_is c.forest.invariant in
    let pairs_are = ap (λ (g : ForestData). g.pairs) c.forest.view_is in
    let len : vec_len c.forest.inside.pairs ≡ length c.forest.inside.pairs.items = search rules in
    let count : c.len-place.result ≡ length c.args.forest.now.pairs = c.len-place.ensures ∙ len ∙ ap length pairs_are in
    let one : c.loop-place.place ≡ suc (c.loop-place.place - 1) = omega (arith, c.loop-place-test.true) in
    let lt : c.loop-place.place - 1 < length c.args.forest.now.pairs = omega (arith, c.loop-place-test.true, c.loop-place.auto.place, count) in
    omega (arith, lt, c.loop-place.invariant.split_count)

pub loop-place-preserved : goal.loop-place-preserved
loop-place-preserved c =
    let forest = subst IsForest c.forest.view_is c.forest.invariant in
    let pairs_are = ap (λ (g : ForestData). g.pairs) c.forest.view_is in
    let len : vec_len c.forest.inside.pairs ≡ length c.forest.inside.pairs.items = search rules in
    let count : c.len-place.result ≡ length c.args.forest.now.pairs = c.len-place.ensures ∙ len ∙ ap length pairs_are in
    let one : c.loop-place.place ≡ suc (c.loop-place.place - 1) = omega (arith, c.loop-place-test.true) in
    let lt : c.loop-place.place - 1 < length c.args.forest.now.pairs = omega (arith, c.loop-place-test.true, c.loop-place.auto.place, count) in
    let at = pair_read c.args.forest.now c.forest.inside.pairs.items pairs_are (c.loop-place.place - 1) c.index.result.now lt c.index.ensures in
    let x = c.index.result.now in
    let d = c.in_ok-split.field-0 in
    let is = c.in_ok-split.ensures x at in
    let ks = kept_with (right_arm x) d.right (kept_with (left_arm x) d.left c.loop-place.decisions.kept.items) in
    let ds = slice_set c.loop-place.decisions.split.items (c.loop-place.place - 1) d.split in
    let before : State c.args.sums.now.costs c.args.forest.now c.args.sums.now.w c.args.sums.now.h (suc (c.loop-place.place - 1)) (is_kept c.loop-place.decisions.kept.items)
    (is_kept c.loop-place.decisions.split.items) (shape_in c.loop-place.decisions.shapes.items) =
    subst (λ n. State c.args.sums.now.costs c.args.forest.now c.args.sums.now.w c.args.sums.now.h n (is_kept c.loop-place.decisions.kept.items) (is_kept c.loop-place.decisions.split.items)
    (shape_in c.loop-place.decisions.shapes.items)) one c.loop-place.invariant.state in
    record {
      kept_count = ap length c.decide.ensures.kept ∙ kept_length (right_arm x) d.right (kept_with (left_arm x) d.left c.loop-place.decisions.kept.items)
          ∙ kept_length (left_arm x) d.left c.loop-place.decisions.kept.items ∙ c.loop-place.invariant.kept_count;
      split_count = ap length c.decide.ensures.split ∙ length-set c.loop-place.decisions.split.items (c.loop-place.place - 1) d.split ∙ c.loop-place.invariant.split_count;
      shapes_count = ap length c.decide.ensures.shapes
          ∙ shapes_length (right_arm x) d.right (shapes_with (left_arm x) d.left (slice_set c.loop-place.decisions.shapes.items (c.loop-place.place - 1) d.shape))
          ∙ shapes_length (left_arm x) d.left (slice_set c.loop-place.decisions.shapes.items (c.loop-place.place - 1) d.shape)
          ∙ length-set c.loop-place.decisions.shapes.items (c.loop-place.place - 1) d.shape ∙ c.loop-place.invariant.shapes_count;
      state = subst (λ v. State c.args.sums.now.costs c.args.forest.now c.args.sums.now.w c.args.sums.now.h (c.loop-place.place - 1) (is_kept v) (is_kept c.decide.new.self.split.items)
          (shape_in c.decide.new.self.shapes.items)) (sym c.decide.ensures.kept)
          (subst (λ v. State c.args.sums.now.costs c.args.forest.now c.args.sums.now.w c.args.sums.now.h (c.loop-place.place - 1) (is_kept ks) (is_kept v) (shape_in c.decide.new.self.shapes.items))
          (sym c.decide.ensures.split)
          (subst (λ v. State c.args.sums.now.costs c.args.forest.now c.args.sums.now.w c.args.sums.now.h (c.loop-place.place - 1) (is_kept ks) (is_kept ds) (shape_in v)) (sym c.decide.ensures.shapes)
          (pair_decided c.args.forest.now c.args.sums.now c.requires.width.0 c.requires.height.0 forest.in_place.in_order c.loop-place.decisions.kept.items c.loop-place.decisions.split.items
          c.loop-place.decisions.shapes.items c.loop-place.invariant.kept_count c.loop-place.invariant.split_count c.loop-place.invariant.shapes_count (c.loop-place.place - 1) before x at
          c.kept_shape-kept.result c.kept_shape-kept.ensures d.split d.shape d.left d.right is)));
    }

pub returns-clause-decided : goal.returns-clause-decided
returns-clause-decided c =
    let forest = subst IsForest c.forest.view_is c.forest.invariant in
    let none : c.loop-place.place ≡ 0 = omega (arith, c.loop-place-test.false) in
    all_decided c.args.forest.now c.args.sums.now c.requires.width.0 c.requires.height.0 forest.in_place.in_order c.loop-place.decisions.kept.items c.loop-place.decisions.split.items c.loop-place.decisions.shapes.items
    c.loop-place.invariant.kept_count c.loop-place.invariant.split_count c.loop-place.invariant.shapes_count
    (subst (λ n. State c.args.sums.now.costs c.args.forest.now c.args.sums.now.w c.args.sums.now.h n (is_kept c.loop-place.decisions.kept.items) (is_kept c.loop-place.decisions.split.items) (shape_in c.loop-place.decisions.shapes.items)) none c.loop-place.invariant.state)

pub returns-clause-marked : goal.returns-clause-marked
returns-clause-marked c =
    let forest = subst IsForest c.forest.view_is c.forest.invariant in
    let none : c.loop-place.place ≡ 0 = omega (arith, c.loop-place-test.false) in
    all_marked c.args.forest.now c.args.sums.now c.requires.width.0 c.requires.height.0 forest.in_place.in_order c.loop-place.decisions.kept.items c.loop-place.decisions.split.items
    c.loop-place.decisions.shapes.items c.loop-place.invariant.kept_count c.loop-place.invariant.split_count c.loop-place.invariant.shapes_count
    (subst (λ n. State c.args.sums.now.costs c.args.forest.now c.args.sums.now.w c.args.sums.now.h n (is_kept c.loop-place.decisions.kept.items) (is_kept c.loop-place.decisions.split.items)
    (shape_in c.loop-place.decisions.shapes.items)) none c.loop-place.invariant.state)
