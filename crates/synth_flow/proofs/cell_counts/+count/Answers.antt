-- The count of a tree is joined of those of its parts.
use Rattle.std.proofs.Common.{◌≡◌, ◌==◌, ◌||◌, ◌+◌, ◌*◌, ◌<◌, ◌∙◌, ap, ap₂, arith, false, get_or, length, refl, subst, sym}
use Rattle.dual_rail.specs.ForestData.{ForestData}
use Rattle.dual_rail.specs.ForestOrder.{ReadsBefore}
use Rattle.sp_network.specs.Tree.{Leaf}
use Rattle.tree_map.specs.Plans.{IsArmTree, cell_gate, cell_of, cut}
use Rattle.tree_map.proofs.ArmTrees.{cell_at, cell_within, length-cells, pair_at}
use Rattle.tree_map.proofs.PlanOne.{arm_tree_one}
use Rattle.synth_flow.specs.CellCounts.{greatest_read}
use Rattle.deck_form.specs.NamedDecks.{reads}
use Rattle.plan_text.proofs.PairTrees.{tree_at_kept}
use Rattle.synth_flow.proofs.CountedTrees.{both_levels, marks_of_parts, parts_of}
use Rattle.synth_flow.proofs.cell_counts.+count.Goals as goal

pub arm_count-bounds-cells-place : goal.arm_count-bounds-cells-place
arm_count-bounds-cells-place t c =
    let same = ap length c.requires.cells in
    let len = length-cells c.args.kept.now in
    let there : c.in-Pair.place < length c.args.forest.now.pairs = subst (ReadsBefore (length c.args.forest.now.pairs)) c.in-Pair.is c.requires.there.0 in
    omega (arith, same, len, there, c.requires.one_each)

pub arm_count-overflow_add-forest-inside : goal.arm_count-overflow_add-forest-inside
arm_count-overflow_add-forest-inside t c =
    let there : c.in-Pair.place < length c.args.forest.now.pairs = subst (ReadsBefore (length c.args.forest.now.pairs)) c.in-Pair.is c.requires.there.0 in
    let cell = cell_at c.args.kept.now c.args.cells.now c.in-Pair.place c.requires.cells (omega (arith, there, c.requires.one_each)) in
    let few = cell_within c.args.kept.now c.in-Pair.place in
    omega (arith, cell, few, c.requires.one_each, c.requires.forest.few_pairs, c.forest.invariant.few_leaves)

pub arm_count-returns-then-kept-place-clause-level : goal.arm_count-returns-then-kept-place-clause-level
arm_count-returns-then-kept-place-clause-level t c tree is =
    c.pair_count.ensures.level tree (tree_at_kept c.args.forest.now c.args.kept.now is c.in-Pair.place c.in-Pair.is c.if-kept-place.true)

pub arm_count-returns-then-kept-place-clause-marks : goal.arm_count-returns-then-kept-place-clause-marks
arm_count-returns-then-kept-place-clause-marks t c tree is =
    c.pair_count.ensures.marks tree (tree_at_kept c.args.forest.now c.args.kept.now is c.in-Pair.place c.in-Pair.is c.if-kept-place.true)

pub arm_count-returns-else-kept-place-clause-level : goal.arm_count-returns-else-kept-place-clause-level
arm_count-returns-else-kept-place-clause-level t c tree is =
    let there : c.in-Pair.place < length c.args.forest.now.pairs = subst (ReadsBefore (length c.args.forest.now.pairs)) c.in-Pair.is c.requires.there.0 in
    let leaves : c.forest.inside.leaves ≡ c.args.forest.now.leaves = ap (λ (f : ForestData). f.leaves) c.forest.view_is in
    let gate : 2 * c.forest.inside.leaves + get_or c.args.cells.now c.in-Pair.place 0 ≡ cell_gate c.args.forest.now.leaves (cell_of c.args.kept.now c.in-Pair.place) =
    ap₂ (λ n m. 2 * n + m) leaves (cell_at c.args.kept.now c.args.cells.now c.in-Pair.place c.requires.cells (omega (arith, there, c.requires.one_each))) in
    let same : tree ≡ Leaf (cell_gate c.args.forest.now.leaves (cell_of c.args.kept.now c.in-Pair.place)) =
    arm_tree_one c.args.forest.now c.args.kept.now is (cut {place = c.in-Pair.place} c.if-kept-place.false) c.in-Pair.is in
    c.leaf_count-else-kept-place.ensures.level ∙ ap₂ (λ n g. greatest_read n c.args.levels.now (Leaf g)) leaves gate
    ∙ ap (greatest_read c.args.forest.now.leaves c.args.levels.now) (sym same)

pub arm_count-returns-else-kept-place-clause-marks : goal.arm_count-returns-else-kept-place-clause-marks
arm_count-returns-else-kept-place-clause-marks t c tree is leaf lt =
    let there : c.in-Pair.place < length c.args.forest.now.pairs = subst (ReadsBefore (length c.args.forest.now.pairs)) c.in-Pair.is c.requires.there.0 in
    let leaves : c.forest.inside.leaves ≡ c.args.forest.now.leaves = ap (λ (f : ForestData). f.leaves) c.forest.view_is in
    let gate : 2 * c.forest.inside.leaves + get_or c.args.cells.now c.in-Pair.place 0 ≡ cell_gate c.args.forest.now.leaves (cell_of c.args.kept.now c.in-Pair.place) =
    ap₂ (λ n m. 2 * n + m) leaves (cell_at c.args.kept.now c.args.cells.now c.in-Pair.place c.requires.cells (omega (arith, there, c.requires.one_each))) in
    let same : tree ≡ Leaf (cell_gate c.args.forest.now.leaves (cell_of c.args.kept.now c.in-Pair.place)) =
    arm_tree_one c.args.forest.now c.args.kept.now is (cut {place = c.in-Pair.place} c.if-kept-place.false) c.in-Pair.is in
    c.leaf_count-else-kept-place.ensures.marks leaf lt
    ∙ ap (λ b. get_or c.args.marks.now leaf false || b) (ap (λ g. g == 2 * leaf + 1) gate ∙ ap (reads (2 * leaf + 1)) (sym same))

pub pair_count-returns-clause-level : goal.pair_count-returns-clause-level
pair_count-returns-clause-level t c tree is =
    let forest = c.args.forest.now in
    let kept = c.args.kept.now in
    let at = pair_at forest c.forest.inside.pairs.items c.args.place c.index.result.now c.index.result.now (ap (λ (f : ForestData). f.pairs) c.forest.view_is) c.requires.there c.index.ensures refl in
    let p = parts_of forest kept c.args.place c.index.result.now tree at is in
    both_levels forest.leaves c.args.levels.now tree p.0 p.1 _ _ _ p.4
    (c.arm_count-first.ensures.level p.0 (subst (λ a. IsArmTree forest kept a p.0) (sym c.arms-left.ensures.left) p.2))
    (c.arm_count-second.ensures.level p.1 (subst (λ a. IsArmTree forest kept a p.1) (sym c.arms-left.ensures.right) p.3)) c.max.ensures

pub pair_count-returns-clause-marks : goal.pair_count-returns-clause-marks
pair_count-returns-clause-marks t c tree is =
    let forest = c.args.forest.now in
    let kept = c.args.kept.now in
    let at = pair_at forest c.forest.inside.pairs.items c.args.place c.index.result.now c.index.result.now (ap (λ (f : ForestData). f.pairs) c.forest.view_is) c.requires.there c.index.ensures refl in
    let p = parts_of forest kept c.args.place c.index.result.now tree at is in
    marks_of_parts c.args.marks.now c.arm_count-first.new.marks c.arm_count-second.new.marks tree p.0 p.1 p.4 c.arm_count-first.auto.marks
    (c.arm_count-first.ensures.marks p.0 (subst (λ a. IsArmTree forest kept a p.0) (sym c.arms-left.ensures.left) p.2))
    (c.arm_count-second.ensures.marks p.1 (subst (λ a. IsArmTree forest kept a p.1) (sym c.arms-left.ensures.right) p.3))
