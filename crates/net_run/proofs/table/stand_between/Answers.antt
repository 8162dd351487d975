use Rattle.std.proofs.Common.{arith}
use Rattle.net_run.proofs.RowMatches.{with_one_letter}
use Rattle.net_run.proofs.table.stand_between.Goals as goal

pub loop-k-preserved : goal.loop-k-preserved
loop-k-preserved c = (
  with_one_letter c.args.letters.now c.args.inputs.now c.args.values.now c.args.start c.loop-k.k _ c.loop-k.all c.stands_for-all.result c.loop-k.invariant.1
      (omega (arith, c.loop-k-test.true, c.requires.within)) c.loop-k.invariant.0 c.stands_for-all.ensures,
  omega (arith, c.loop-k.invariant.1),
)
