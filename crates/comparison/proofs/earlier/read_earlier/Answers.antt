use Rattle.std.proofs.Common.{◌≡◌, subst, length, arith}
use Rattle.clock_phase.proofs.EarlierCells.{FirstReadEarlier, one_more_reads, all_read}
use Rattle.comparison.proofs.earlier.read_earlier.Goals as goal

pub loop-k-preserved : goal.loop-k-preserved
loop-k-preserved c =
    one_more_reads c.args.leaves c.args.plans.now c.loop-k.k c.index-plans-k.result c.loop-k-test.true c.loop-k.invariant
    (c.reads_below.ensures c.if-not-reads_below.false)

pub returns : goal.returns
returns c e =
    let end : c.loop-k.k ≡ length c.args.plans.now = omega (arith, c.loop-k-test.false, c.loop-k.auto.k-end) in
    all_read c.args.leaves c.args.plans.now (subst (FirstReadEarlier c.args.leaves c.args.plans.now) end c.loop-k.invariant)
