use Rattle.std.proofs.Common.{◌≡◌, ◌*◌, length}
use Rattle.tree_map.specs.CoverSums.{AreLeastBefore}
use Rattle.tree_map.proofs.tables.sums_of.Given as goal

abbrev pub invariant-loop-pair : goal.invariant-loop-pair
invariant-loop-pair l = record {
  width : l.table.w ≡ l.fn.bounds.w;
  height : l.table.h ≡ l.fn.bounds.h;
  costs : l.table.costs ≡ l.fn.costs;
  count : length l.table.sums ≡ l.pair-index * (l.fn.bounds.w * l.fn.bounds.h);
  cuts : length l.table.cuts ≡ l.pair-index;
  row : length l.row ≡ l.fn.bounds.w * l.fn.bounds.h;
  least : AreLeastBefore l.fn.forest l.pair-index l.table;
}
