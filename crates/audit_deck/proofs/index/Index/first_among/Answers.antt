use Rattle.std.proofs.Common.{arith}
use Rattle.audit_deck.proofs.LaterBreaks.{leaf_low}
use Rattle.audit_deck.proofs.index.Index.first_among.Goals as goal

pub returns-clause-none : goal.returns-clause-none
returns-clause-none c = λ n b.
    let low = leaf_low c.args.self.now.devices c.args.roles c.args.self.now.nets c.requires.in_range n b in
    c.loop-net.invariant.none n (omega (arith, low, c.loop-net-test.false, c.requires.count)) b
