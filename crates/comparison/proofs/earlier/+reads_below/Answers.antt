use Rattle.std.proofs.Common.{sym, subst}
use Rattle.clock_phase.proofs.EarlierCells.{AllBelow}
use Rattle.comparison.proofs.earlier.+reads_below.Goals as goal

pub returns-then-left : goal.returns-then-left
returns-then-left t c e =
    subst (AllBelow c.args.count) (sym c.in-Series.is) (
      subst (AllBelow c.args.count) c.deref.ensures (c.reads_below-left.ensures c.if-left.true),
      subst (AllBelow c.args.count) c.deref-in-Series.ensures (c.reads_below-right.ensures e),
    )

pub returns-then-left-2 : goal.returns-then-left-2
returns-then-left-2 t c e =
    subst (AllBelow c.args.count) (sym c.in-Parallel.is) (
      subst (AllBelow c.args.count) c.deref-in-Parallel.ensures (c.reads_below-left-in-Parallel.ensures c.if-left-2.true),
      subst (AllBelow c.args.count) c.deref-in-Parallel-2.ensures (c.reads_below-right-in-Parallel.ensures e),
    )
