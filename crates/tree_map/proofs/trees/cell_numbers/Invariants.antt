use Rattle.std.proofs.Common.{◌≡◌, map}
use Rattle.std.specs.List.{range_with_len}
use Rattle.tree_map.specs.Plans.{cell_of}
use Rattle.tree_map.proofs.trees.cell_numbers.Given as goal

abbrev pub invariant-loop-keep : goal.invariant-loop-keep
invariant-loop-keep l = record {
  cells : l.cells.items ≡ map (cell_of l.kept) (range_with_len 0 l.keep-index);
  next : l.next ≡ cell_of l.kept l.keep-index;
}
