use Rattle.std.proofs.Common.{◌+◌, ap}
use Rattle.numbered_signals.proofs.BlockSteps.{own-step}
use Rattle.numbered_signals.proofs.roots.ScopeRoots.push_own.Goals as goal

pub loop-index-preserved : goal.loop-index-preserved
loop-index-preserved c = own-step c.args.count c.args.self.now c.loop-index.self c.push.new.self c.loop-index.index (c.len-start.result + c.loop-index.index)
    c.loop-index.invariant c.loop-index-test.true (ap (λ k. k + c.loop-index.index) c.len-start.ensures) c.in_ok-push.ensures
