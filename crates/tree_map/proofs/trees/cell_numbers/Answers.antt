use Rattle.std.proofs.Common.{◌+◌, ◌∙◌, ap, sym}
use Rattle.tree_map.proofs.RootTrees.{cell_kept, cell_root, cells_more}
use Rattle.tree_map.proofs.trees.cell_numbers.Goals.{then-not-keep, else-not-keep}
use Rattle.tree_map.proofs.trees.cell_numbers.Goals as goal

pub loop-keep-preserved : goal.loop-keep-preserved
loop-keep-preserved c = record {
  cells = c.in_ok-push.ensures.items ∙ cells_more c.args.kept.now c.loop-keep.cells.items c.loop-keep.keep-index c.loop-keep.next c.loop-keep.invariant.cells c.loop-keep.invariant.next;
  next = elim c.if-not-keep.branch [
    | then-not-keep w ↦ w.next-is ∙ ap (λ n. n + 1) c.loop-keep.invariant.next ∙ sym (cell_root c.args.kept.now c.loop-keep.keep-index c.loop-keep-test.true w.if-not-keep.true)
    | else-not-keep w ↦ w.next-is ∙ c.loop-keep.invariant.next ∙ sym (cell_kept c.args.kept.now c.loop-keep.keep-index c.loop-keep-test.true w.if-not-keep.false)
  ];
}
