use Rattle.std.proofs.Common.{subst, ◌∙◌, ◌++◌, map, take}
use Rattle.std.proofs.lemmas.List.{take_all}
use Rattle.tree_map.specs.CoverRows.{IsRow, entry_of, joined_entry}
use Rattle.tree_map.specs.LeastPlans.{operator_of}
use Rattle.tree_map.proofs.RowLoops.{right_step, small_at}
use Rattle.tree_map.proofs.joins.join_right.Goals as goal

pub joined-shape-requires-clause-right : goal.joined-shape-requires-clause-right
joined-shape-requires-clause-right c = small_at c.args.rights.now c.loop-right.right-index c.right-item.result c.loop-right-test.true c.right-item.is c.requires.rights

pub loop-right-preserved : goal.loop-right-preserved
loop-right-preserved c = record {
  count = c.keep_least.ensures.count ∙ c.loop-right.invariant.count;
  least = λ es is.
      let xs = c.args.rights.now in
      let i = c.loop-right.right-index in
      let f = joined_entry c.args.costs (operator_of c.args.pair) (entry_of c.args.left.now) in
      let joined = c.joined-shape.ensures in
      subst (λ ys. IsRow c.args.bounds.w c.args.bounds.h ys c.keep_least.new.row)
      (right_step xs i c.right-item.result c.loop-right-test.true c.right-item.is f es _ (λ k. record { shape = joined.shape k; sum = joined.sum k }))
      (c.keep_least.ensures.least (es ++ map f (map entry_of (take i xs))) (c.loop-right.invariant.least es is));
}

pub returns-clause-least : goal.returns-clause-least
returns-clause-least c = λ es is. rw (← (take_all c.loop-right.right-index c.args.rights.now c.loop-right-test.false)) (c.loop-right.invariant.least es is)
