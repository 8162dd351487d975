use Rattle.std.proofs.Common.{ℕ, rules}
use Rattle.network.specs.declared.network.NetLatch.{NetLatch}
use Rattle.net_flatten.specs.OneModel.{latch_at}
use Rattle.net_flatten.proofs.ToFile.{numbered_all, numbered_more}
use Rattle.net_flatten.proofs.one_model.latches_of.Goals as goal

pub loop-k-preserved : goal.loop-k-preserved
loop-k-preserved c = numbered_more (λ (p : ℕ × NetLatch). latch_at c.args.network.now p.0 p.1) c.args.network.now.latches c.loop-k.k c.in_ok-latch_of.field-0 c.loop-k.latches.items
    c.push.new.self.items (search rules) c.loop-k.invariant c.in_ok-push.ensures.items c.in_ok-latch_of.ensures

pub returns : goal.returns
returns c = numbered_all (λ (p : ℕ × NetLatch). latch_at c.args.network.now p.0 p.1) c.args.network.now.latches c.loop-k.k c.loop-k.latches.items (search rules) c.loop-k.invariant
