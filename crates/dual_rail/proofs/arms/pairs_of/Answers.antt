-- A pair more.
use Rattle.std.proofs.Common.{false}
use Rattle.dual_rail.specs.Forests.{IsPairOf}
use Rattle.dual_rail.proofs.ArmsOf.{all_zip_next}
use Rattle.dual_rail.proofs.arms.pairs_of.Goals as goal

pub loop-node-preserved : goal.loop-node-preserved
loop-node-preserved c =
    all_zip_next (IsPairOf c.args.nodes.now c.args.origin.now) c.args.origin.now c.loop-node.pairs.items c.push.new.self.items c.loop-node.node-index (0, false) c.pair_of.result
    c.loop-node-test.true c.in_ok-push.ensures.items c.loop-node.invariant (c.pair_of.ensures c.args.origin.now (c.requires.closed c.loop-node.node-index (0, false) c.loop-node-test.true))
