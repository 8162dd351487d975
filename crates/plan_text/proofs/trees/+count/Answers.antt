use Rattle.std.proofs.Common.{◌≡◌, ◌+◌, ◌*◌, ap, sym, arith}
use Rattle.domino_cell.proofs.PushedTrees.{inner_count-below}
use Rattle.dual_rail.specs.declared.forest.Pair.TheVariants.{And, Or}
use Rattle.dual_rail.specs.ForestData.{ForestData}
use Rattle.sp_network.specs.Tree.{inner_count}
use Rattle.tree_map.specs.Plans.{literal, cut}
use Rattle.tree_map.proofs.ArmTrees.{left_there, pair_at, right_there, room_less}
use Rattle.tree_map.proofs.PlanOne.{arm_tree_one}
use Rattle.plan_text.proofs.PairTrees.{and_count, and_left_small, and_right_small, or_count, or_left_room, or_right_small, tree_at_kept}
use Rattle.plan_text.proofs.trees.+count.Goals as goal

pub pair_inner-arm_inner-requires : goal.pair_inner-arm_inner-requires
pair_inner-arm_inner-requires t c =
    let at = pair_at c.args.forest.now c.forest.inside.pairs.items c.args.place c.index.result.now (And c.in-And.left c.in-And.right)
    (ap (λ (f : ForestData). f.pairs) c.forest.view_is) c.requires.there c.index.ensures c.in-And.is in
    let less = room_less c.args.place c.in-And.left (c.requires.forest.in_place.in_order c.args.place _ at).0 in
    let room : 2 * c.args.place + 1 ≡ t = c.decreases in
    (omega (arith, less, room), (c.requires.forest, (c.requires.one_each, (left_there c.args.forest.now c.args.place _ c.requires.forest at, and_left_small c.args.forest.now c.args.kept.now c.args.place c.in-And.left c.in-And.right at c.requires.small))))

pub pair_inner-arm_inner-requires-in-And : goal.pair_inner-arm_inner-requires-in-And
pair_inner-arm_inner-requires-in-And t c =
    let at = pair_at c.args.forest.now c.forest.inside.pairs.items c.args.place c.index.result.now (And c.in-And.left c.in-And.right)
    (ap (λ (f : ForestData). f.pairs) c.forest.view_is) c.requires.there c.index.ensures c.in-And.is in
    let less = room_less c.args.place c.in-And.right (c.requires.forest.in_place.in_order c.args.place _ at).1 in
    let room : 2 * c.args.place + 1 ≡ t = c.decreases in
    (omega (arith, less, room), (c.requires.forest, (c.requires.one_each, (right_there c.args.forest.now c.args.place _ c.requires.forest at, and_right_small c.args.forest.now c.args.kept.now c.args.place c.in-And.left c.in-And.right at c.requires.small))))

pub pair_inner-arm_inner-requires-in-Or : goal.pair_inner-arm_inner-requires-in-Or
pair_inner-arm_inner-requires-in-Or t c =
    let at = pair_at c.args.forest.now c.forest.inside.pairs.items c.args.place c.index.result.now (Or c.in-Or.left c.in-Or.right)
    (ap (λ (f : ForestData). f.pairs) c.forest.view_is) c.requires.there c.index.ensures c.in-Or.is in
    let less = room_less c.args.place c.in-Or.left (c.requires.forest.in_place.in_order c.args.place _ at).0 in
    let room : 2 * c.args.place + 1 ≡ t = c.decreases in
    (omega (arith, less, room), (c.requires.forest, (c.requires.one_each, (left_there c.args.forest.now c.args.place _ c.requires.forest at, or_left_room c.args.forest.now c.args.kept.now c.args.place c.in-Or.left c.in-Or.right at 0 c.requires.small))))

pub pair_inner-arm_inner-requires-in-Or-2 : goal.pair_inner-arm_inner-requires-in-Or-2
pair_inner-arm_inner-requires-in-Or-2 t c =
    let at = pair_at c.args.forest.now c.forest.inside.pairs.items c.args.place c.index.result.now (Or c.in-Or.left c.in-Or.right)
    (ap (λ (f : ForestData). f.pairs) c.forest.view_is) c.requires.there c.index.ensures c.in-Or.is in
    let less = room_less c.args.place c.in-Or.right (c.requires.forest.in_place.in_order c.args.place _ at).1 in
    let room : 2 * c.args.place + 1 ≡ t = c.decreases in
    (omega (arith, less, room), (c.requires.forest, (c.requires.one_each, (right_there c.args.forest.now c.args.place _ c.requires.forest at, or_right_small c.args.forest.now c.args.kept.now c.args.place c.in-Or.left c.in-Or.right at c.requires.small))))

pub pair_inner-overflow_add-result : goal.pair_inner-overflow_add-result
pair_inner-overflow_add-result t c =
    let at = pair_at c.args.forest.now c.forest.inside.pairs.items c.args.place c.index.result.now (And c.in-And.left c.in-And.right)
    (ap (λ (f : ForestData). f.pairs) c.forest.view_is) c.requires.there c.index.ensures c.in-And.is in
    let first = and_left_small c.args.forest.now c.args.kept.now c.args.place c.in-And.left c.in-And.right at c.requires.small in
    omega (arith, c.arm_inner.ensures first.0 first.1, first.2, inner_count-below first.0)

pub pair_inner-overflow_add-result-in-And : goal.pair_inner-overflow_add-result-in-And
pair_inner-overflow_add-result-in-And t c =
    let at = pair_at c.args.forest.now c.forest.inside.pairs.items c.args.place c.index.result.now (And c.in-And.left c.in-And.right)
    (ap (λ (f : ForestData). f.pairs) c.forest.view_is) c.requires.there c.index.ensures c.in-And.is in
    let small = c.requires.small in
    omega (arith, and_count c.args.forest.now c.args.kept.now c.args.place c.in-And.left c.in-And.right at _ _ c.arm_inner.ensures c.arm_inner-in-And.ensures small.0 small.1, small.2, inner_count-below small.0)

pub pair_inner-overflow_add-result-in-Or : goal.pair_inner-overflow_add-result-in-Or
pair_inner-overflow_add-result-in-Or t c =
    let at = pair_at c.args.forest.now c.forest.inside.pairs.items c.args.place c.index.result.now (Or c.in-Or.left c.in-Or.right)
    (ap (λ (f : ForestData). f.pairs) c.forest.view_is) c.requires.there c.index.ensures c.in-Or.is in
    let small = c.requires.small in
    omega (arith, or_count c.args.forest.now c.args.kept.now c.args.place c.in-Or.left c.in-Or.right at _ _ c.arm_inner-in-Or.ensures c.arm_inner-in-Or-2.ensures small.0 small.1, small.2, inner_count-below small.0)

pub pair_inner-returns-in-And : goal.pair_inner-returns-in-And
pair_inner-returns-in-And t c =
    let at = pair_at c.args.forest.now c.forest.inside.pairs.items c.args.place c.index.result.now (And c.in-And.left c.in-And.right)
    (ap (λ (f : ForestData). f.pairs) c.forest.view_is) c.requires.there c.index.ensures c.in-And.is in
    and_count c.args.forest.now c.args.kept.now c.args.place c.in-And.left c.in-And.right at _ _ c.arm_inner.ensures c.arm_inner-in-And.ensures

pub pair_inner-returns-in-Or : goal.pair_inner-returns-in-Or
pair_inner-returns-in-Or t c =
    let at = pair_at c.args.forest.now c.forest.inside.pairs.items c.args.place c.index.result.now (Or c.in-Or.left c.in-Or.right)
    (ap (λ (f : ForestData). f.pairs) c.forest.view_is) c.requires.there c.index.ensures c.in-Or.is in
    or_count c.args.forest.now c.args.kept.now c.args.place c.in-Or.left c.in-Or.right at _ _ c.arm_inner-in-Or.ensures c.arm_inner-in-Or-2.ensures

pub arm_inner-returns-in-Literal : goal.arm_inner-returns-in-Literal
arm_inner-returns-in-Literal t c = λ tree is. sym (ap inner_count (arm_tree_one c.args.forest.now c.args.kept.now is literal c.in-Literal.is))

pub arm_inner-returns-then-kept-place : goal.arm_inner-returns-then-kept-place
arm_inner-returns-then-kept-place t c = λ tree is.
    c.pair_inner.ensures tree (tree_at_kept c.args.forest.now c.args.kept.now is c.in-Pair.place c.in-Pair.is c.if-kept-place.true)

pub arm_inner-returns-else-kept-place : goal.arm_inner-returns-else-kept-place
arm_inner-returns-else-kept-place t c = λ tree is.
    sym (ap inner_count (arm_tree_one c.args.forest.now c.args.kept.now is (cut {place = c.in-Pair.place} c.if-kept-place.false) c.in-Pair.is))
