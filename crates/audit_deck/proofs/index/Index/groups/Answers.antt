use Rattle.std.proofs.Common.{arith, subst, sym, ◌+◌}
use Rattle.audit_deck.specs.Latches.{AreGroupsBelow}
use Rattle.audit_deck.proofs.LatchLists.{all_below, below_next, own_low, own_output}
use Rattle.audit_deck.proofs.index.Index.groups.Goals as goal

pub loop-net-preserved : goal.loop-net-preserved
loop-net-preserved c =
    let ds = c.args.self.now.devices in
    let n = c.loop-net.net in
    subst (AreGroupsBelow ds c.args.roles (n + 1)) (sym c.in_ok-put_latch.ensures)
    (below_next ds c.args.roles n c.loop-net.groups.items c.in_ok-latch.latch c.loop-net.invariant c.in_ok-latch.ensures.some c.in_ok-latch.ensures.none)

pub returns : goal.returns
returns c =
    let ds = c.args.self.now.devices in
    all_below ds c.args.roles c.loop-net.net c.loop-net.groups.items c.loop-net.invariant
    (λ l k. let low = own_low ds c.args.roles c.args.self.now.nets c.requires.in_range l.group l.places k l.group.output (own_output ds c.args.roles l.group) in
    omega (arith, low, c.loop-net-test.false, c.requires.count))
