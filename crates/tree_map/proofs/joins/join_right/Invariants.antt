use Rattle.std.proofs.Common.{◌≡◌, ◌++◌, List, length, map, take}
use Rattle.tree_map.specs.CoverRows.{IsRow, entry_of, joined_entry}
use Rattle.cover_plan.specs.CoverTables.{Entry}
use Rattle.tree_map.specs.LeastPlans.{operator_of}
use Rattle.tree_map.proofs.joins.join_right.Given as goal

abbrev pub invariant-loop-right : goal.invariant-loop-right
invariant-loop-right l = record {
  count : length l.row ≡ length l.fn.row;
  least : (es : List Entry) → IsRow l.fn.bounds.w l.fn.bounds.h es l.fn.row
      → IsRow l.fn.bounds.w l.fn.bounds.h (es ++ map (joined_entry l.fn.costs (operator_of l.fn.pair) (entry_of l.fn.left)) (map entry_of (take l.right-index l.fn.rights))) l.row;
}
