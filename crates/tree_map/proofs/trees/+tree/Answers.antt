use Rattle.std.proofs.Common.{◌≡◌, ◌+◌, ◌*◌, ◌<◌, length, ap, sym, ◌∙◌, subst, arith}
use Rattle.std.proofs.lemmas.Result.{IfOk-weaker}
use Rattle.dom_base.specs.declared.polarity.ToVss.{ToVss}
use Rattle.sp_network.specs.Tree.{Leaf}
use Rattle.sp_network.specs.declared.sp.Sp.{Sp}
use Rattle.sp_network.specs.TypedTree.{tree_of}
use Rattle.dual_rail.specs.declared.forest.Pair.TheVariants.{And, Or}
use Rattle.dual_rail.specs.ForestData.{ForestData}
use Rattle.dual_rail.specs.ForestOrder.{ReadsBefore}
use Rattle.tree_map.specs.Plans.{IsArmTree, literal, IsTreeOf}
use Rattle.tree_map.proofs.ArmTrees.{and_tree, cell_at, cell_within, leaf_tree, length-cells, left_there, or_tree, pair_at, right_there, room_less}
use Rattle.compound_plan.proofs.PlanTrees.{tree_below}
use Rattle.tree_map.proofs.trees.+tree.Goals as goal

pub pair_tree-arm_tree-requires : goal.pair_tree-arm_tree-requires
pair_tree-arm_tree-requires t c =
    let at = pair_at c.args.forest.now c.forest.inside.pairs.items c.args.place c.index.result.now (And c.in-And.left c.in-And.right)
    (ap (λ (f : ForestData). f.pairs) c.forest.view_is) c.requires.there c.index.ensures c.in-And.is in
    let less = room_less c.args.place c.in-And.left (c.requires.forest.in_place.in_order c.args.place _ at).0 in
    let room : 2 * c.args.place + 1 ≡ t = c.decreases in
    (omega (arith, less, room), (c.requires.forest, (c.requires.one_each, (c.requires.cells, left_there c.args.forest.now c.args.place _ c.requires.forest at))))

pub pair_tree-arm_tree-requires-in-And : goal.pair_tree-arm_tree-requires-in-And
pair_tree-arm_tree-requires-in-And t c =
    let at = pair_at c.args.forest.now c.forest.inside.pairs.items c.args.place c.index.result.now (And c.in-And.left c.in-And.right)
    (ap (λ (f : ForestData). f.pairs) c.forest.view_is) c.requires.there c.index.ensures c.in-And.is in
    let less = room_less c.args.place c.in-And.right (c.requires.forest.in_place.in_order c.args.place _ at).1 in
    let room : 2 * c.args.place + 1 ≡ t = c.decreases in
    (omega (arith, less, room), (c.requires.forest, (c.requires.one_each, (c.requires.cells, right_there c.args.forest.now c.args.place _ c.requires.forest at))))

pub pair_tree-arm_tree-requires-in-Or : goal.pair_tree-arm_tree-requires-in-Or
pair_tree-arm_tree-requires-in-Or t c =
    let at = pair_at c.args.forest.now c.forest.inside.pairs.items c.args.place c.index.result.now (Or c.in-Or.left c.in-Or.right)
    (ap (λ (f : ForestData). f.pairs) c.forest.view_is) c.requires.there c.index.ensures c.in-Or.is in
    let less = room_less c.args.place c.in-Or.left (c.requires.forest.in_place.in_order c.args.place _ at).0 in
    let room : 2 * c.args.place + 1 ≡ t = c.decreases in
    (omega (arith, less, room), (c.requires.forest, (c.requires.one_each, (c.requires.cells, left_there c.args.forest.now c.args.place _ c.requires.forest at))))

pub pair_tree-arm_tree-requires-in-Or-2 : goal.pair_tree-arm_tree-requires-in-Or-2
pair_tree-arm_tree-requires-in-Or-2 t c =
    let at = pair_at c.args.forest.now c.forest.inside.pairs.items c.args.place c.index.result.now (Or c.in-Or.left c.in-Or.right)
    (ap (λ (f : ForestData). f.pairs) c.forest.view_is) c.requires.there c.index.ensures c.in-Or.is in
    let less = room_less c.args.place c.in-Or.right (c.requires.forest.in_place.in_order c.args.place _ at).1 in
    let room : 2 * c.args.place + 1 ≡ t = c.decreases in
    (omega (arith, less, room), (c.requires.forest, (c.requires.one_each, (c.requires.cells, right_there c.args.forest.now c.args.place _ c.requires.forest at))))

pub pair_tree-returns-in_ok-new-in-And-2 : goal.pair_tree-returns-in_ok-new-in-And-2
pair_tree-returns-in_ok-new-in-And-2 t c =
    let at = pair_at c.args.forest.now c.forest.inside.pairs.items c.args.place c.index.result.now (And c.in-And.left c.in-And.right)
    (ap (λ (f : ForestData). f.pairs) c.forest.view_is) c.requires.there c.index.ensures c.in-And.is in
    and_tree c.args.forest.now c.args.kept.now c.args.place c.in-And.left c.in-And.right _ _ at
    (subst (λ (x : Sp ToVss). IsArmTree c.args.forest.now c.args.kept.now c.in-And.left (tree_of x)) (sym c.in_ok-new-in-And.ensures.ok) c.in_ok-left-in-And.ensures)
    (subst (λ (x : Sp ToVss). IsArmTree c.args.forest.now c.args.kept.now c.in-And.right (tree_of x)) (sym c.in_ok-new-in-And-2.ensures.ok) c.in_ok-right-in-And.ensures)

pub pair_tree-returns-in_ok-new-in-Or-2 : goal.pair_tree-returns-in_ok-new-in-Or-2
pair_tree-returns-in_ok-new-in-Or-2 t c =
    let at = pair_at c.args.forest.now c.forest.inside.pairs.items c.args.place c.index.result.now (Or c.in-Or.left c.in-Or.right)
    (ap (λ (f : ForestData). f.pairs) c.forest.view_is) c.requires.there c.index.ensures c.in-Or.is in
    or_tree c.args.forest.now c.args.kept.now c.args.place c.in-Or.left c.in-Or.right _ _ at
    (subst (λ (x : Sp ToVss). IsArmTree c.args.forest.now c.args.kept.now c.in-Or.left (tree_of x)) (sym c.in_ok-new-in-Or.ensures.ok) c.in_ok-left-in-Or.ensures)
    (subst (λ (x : Sp ToVss). IsArmTree c.args.forest.now c.args.kept.now c.in-Or.right (tree_of x)) (sym c.in_ok-new-in-Or-2.ensures.ok) c.in_ok-right-in-Or.ensures)

pub arm_tree-bounds-cells-place : goal.arm_tree-bounds-cells-place
arm_tree-bounds-cells-place t c =
    let same = ap length c.requires.cells in
    let len = length-cells c.args.kept.now in
    let there : c.in-Pair.place < length c.args.forest.now.pairs = subst (ReadsBefore (length c.args.forest.now.pairs)) c.in-Pair.is c.requires.there.0 in
    omega (arith, same, len, there, c.requires.one_each)

pub arm_tree-overflow_add-forest-inside : goal.arm_tree-overflow_add-forest-inside
arm_tree-overflow_add-forest-inside t c =
    let there : c.in-Pair.place < length c.args.forest.now.pairs = subst (ReadsBefore (length c.args.forest.now.pairs)) c.in-Pair.is c.requires.there.0 in
    let cell = cell_at c.args.kept.now c.args.cells.now c.in-Pair.place c.requires.cells (omega (arith, there, c.requires.one_each)) in
    let few = cell_within c.args.kept.now c.in-Pair.place in
    omega (arith, cell, few, c.requires.one_each, c.requires.forest.few_pairs, c.forest.invariant.few_leaves)

pub arm_tree-returns-in-Literal : goal.arm_tree-returns-in-Literal
arm_tree-returns-in-Literal t c =
    let tree = c.leaf.ensures ∙ ap Leaf c.gate_of.ensures in
    rw (c.in-Literal.is, tree) literal

pub arm_tree-returns-then-kept-place : goal.arm_tree-returns-then-kept-place
arm_tree-returns-then-kept-place t c =
    let arm = c.in-Pair.is in
    rw arm (IfOk-weaker c.pair_tree.result (λ tree. IsTreeOf c.args.forest.now c.args.kept.now c.in-Pair.place (tree_of tree)) _
    (λ tree is. tree_below c.args.forest.now c.args.kept.now c.in-Pair.place (tree_of tree) c.if-kept-place.true is) c.pair_tree.ensures)

pub arm_tree-returns-else-kept-place : goal.arm_tree-returns-else-kept-place
arm_tree-returns-else-kept-place t c =
    let there : c.in-Pair.place < length c.args.forest.now.pairs = subst (ReadsBefore (length c.args.forest.now.pairs)) c.in-Pair.is c.requires.there.0 in
    let arm = c.in-Pair.is in
    rw arm (leaf_tree c.args.forest.now c.args.kept.now c.args.cells.now c.in-Pair.place c.forest.inside.leaves _ c.requires.cells (omega (arith, there, c.requires.one_each))
    (ap (λ (f : ForestData). f.leaves) c.forest.view_is) c.if-kept-place.false c.leaf-else-kept-place.ensures)
