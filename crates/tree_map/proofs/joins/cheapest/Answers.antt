use Rattle.std.proofs.Common.{◌∙◌}
use Rattle.tree_map.proofs.RowLoops.{lowest_none, lowest_some}
use Rattle.tree_map.proofs.joins.cheapest.Goals.{in-Some, in-None}
use Rattle.tree_map.proofs.joins.cheapest.Goals as goal

pub loop-offer-preserved : goal.loop-offer-preserved
loop-offer-preserved c =
    let xs = c.args.offers.now in
    let i = c.loop-offer.offer-index in
    elim c.match-least.branch [
      | in-Some w ↦
          w.least-is ∙ lowest_some xs i c.offer-item.result c.loop-offer-test.true c.offer-item.is c.loop-offer.least w.in-Some.sum w.min.result c.loop-offer.invariant w.in-Some.is w.min.ensures
      | in-None w ↦ w.least-is ∙ lowest_none xs i c.offer-item.result c.loop-offer-test.true c.offer-item.is c.loop-offer.least c.loop-offer.invariant w.in-None.is
    ]
