use Rattle.std.proofs.Common.{subst, ◌∙◌, map, take}
use Rattle.tree_map.specs.CoverRows.{IsRow, entry_of}
use Rattle.cover_plan.specs.CoverTables.{combined}
use Rattle.tree_map.specs.LeastPlans.{operator_of}
use Rattle.tree_map.proofs.RowLoops.{left_step, small_at}
use Rattle.tree_map.proofs.joins.join_arms.Goals as goal

pub join_right-requires-clause-left : goal.join_right-requires-clause-left
join_right-requires-clause-left c = small_at c.args.lefts.now c.loop-left.left-index c.left-item.result c.loop-left-test.true c.left-item.is c.requires.lefts

pub loop-left-preserved : goal.loop-left-preserved
loop-left-preserved c =
    let xs = c.args.lefts.now in
    let i = c.loop-left.left-index in
    let rs = map entry_of c.args.rights.now in
    record {
      count = c.join_right.ensures.count ∙ c.loop-left.invariant.count;
      least =
          subst (λ es. IsRow c.args.bounds.w c.args.bounds.h es c.join_right.new.row)
          (left_step xs i c.left-item.result c.loop-left-test.true c.left-item.is c.args.costs (operator_of c.args.pair) rs)
          (c.join_right.ensures.least (combined c.args.costs (operator_of c.args.pair) (map entry_of (take i xs)) rs) c.loop-left.invariant.least);
    }
