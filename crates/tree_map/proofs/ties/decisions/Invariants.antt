use Rattle.std.proofs.Common.{◌≡◌, length}
use Rattle.compound_plan.proofs.PlanStates.{State}
use Rattle.tree_map.specs.Plans.{is_kept}
use Rattle.tree_map.proofs.DecidedLists.{shape_in}
use Rattle.tree_map.proofs.ties.decisions.Given as goal

abbrev pub invariant-loop-place : goal.invariant-loop-place
invariant-loop-place l = record {
  kept_count : length l.decisions.kept.items ≡ length l.forest.pairs;
  split_count : length l.decisions.split.items ≡ length l.forest.pairs;
  shapes_count : length l.decisions.shapes.items ≡ length l.forest.pairs;
  state : State l.sums.costs l.forest l.sums.w l.sums.h l.place (is_kept l.decisions.kept.items) (is_kept l.decisions.split.items) (shape_in l.decisions.shapes.items);
}
