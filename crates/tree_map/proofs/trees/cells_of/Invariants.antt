use Rattle.std.proofs.Common.{not, filter}
use Rattle.std.specs.List.{AllZip, range_with_len}
use Rattle.tree_map.specs.MappedCover.{HaveFirstClock, plan_trees}
use Rattle.tree_map.specs.Plans.{IsTreeOf, is_kept}
use Rattle.tree_map.proofs.trees.cells_of.Given as goal

abbrev pub invariant-loop-place : goal.invariant-loop-place
invariant-loop-place l = record {
  trees : AllZip (IsTreeOf l.forest l.kept) (filter (λ place. not (is_kept l.kept place)) (range_with_len 0 l.place)) (plan_trees l.plans.items);
  clocks : HaveFirstClock l.plans.items;
}
