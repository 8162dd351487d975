use Rattle.std.proofs.Common.{◌≡◌, length, map, take}
use Rattle.tree_map.specs.CoverRows.{IsRow, entry_of}
use Rattle.cover_plan.specs.CoverTables.{combined}
use Rattle.tree_map.specs.LeastPlans.{operator_of}
use Rattle.tree_map.proofs.joins.join_arms.Given as goal

abbrev pub invariant-loop-left : goal.invariant-loop-left
invariant-loop-left l = record {
  count : length l.row ≡ length l.fn.row;
  least : IsRow l.fn.bounds.w l.fn.bounds.h (combined l.fn.costs (operator_of l.fn.pair) (map entry_of (take l.left-index l.fn.lefts)) (map entry_of l.fn.rights)) l.row;
}
