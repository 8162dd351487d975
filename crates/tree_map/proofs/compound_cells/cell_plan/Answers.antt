use Rattle.std.proofs.Common.{ap, refl, subst, sym}
use Rattle.dual_rail.specs.ForestData.{ForestData}
use Rattle.sp_network.specs.TypedTree.{tree_of}
use Rattle.tree_map.specs.MappedCover.{IsArmInForest}
use Rattle.tree_map.specs.Plans.{IsArmTree}
use Rattle.tree_map.proofs.ArmTrees.{left_there, pair_at, right_there}
use Rattle.tree_map.proofs.CompoundCells.{compound_cell}
use Rattle.tree_map.proofs.compound_cells.cell_plan.Goals as goal

pub arm_tree-requires-clause-there : goal.arm_tree-requires-clause-there
arm_tree-requires-clause-there c =
    let at = pair_at c.args.forest.now c.forest.inside.pairs.items c.args.place c.index.result.now c.index.result.now
    (ap (λ (f : ForestData). f.pairs) c.forest.view_is) c.requires.there c.index.ensures refl in
    subst (IsArmInForest c.args.forest.now) (sym c.arms-left.ensures.left) (left_there c.args.forest.now c.args.place _ c.requires.forest at)

pub arm_tree-requires-2-clause-there : goal.arm_tree-requires-2-clause-there
arm_tree-requires-2-clause-there c =
    let at = pair_at c.args.forest.now c.forest.inside.pairs.items c.args.place c.index.result.now c.index.result.now
    (ap (λ (f : ForestData). f.pairs) c.forest.view_is) c.requires.there c.index.ensures refl in
    subst (IsArmInForest c.args.forest.now) (sym c.arms-left.ensures.right) (right_there c.args.forest.now c.args.place _ c.requires.forest at)

pub returns-clause-trees : goal.returns-clause-trees
returns-clause-trees c =
    let at = pair_at c.args.forest.now c.forest.inside.pairs.items c.args.place c.index.result.now c.index.result.now
    (ap (λ (f : ForestData). f.pairs) c.forest.view_is) c.requires.there c.index.ensures refl in
    compound_cell c.args.forest.now c.args.kept.now c.args.split.now c.args.place _ _ _ c.requires.ors c.if-not-split-place.false at
    (subst (λ a. IsArmTree c.args.forest.now c.args.kept.now a (tree_of c.in_ok-left.left)) c.arms-left.ensures.left c.in_ok-left.ensures)
    (subst (λ a. IsArmTree c.args.forest.now c.args.kept.now a (tree_of c.in_ok-right.right)) c.arms-left.ensures.right c.in_ok-right.ensures)
