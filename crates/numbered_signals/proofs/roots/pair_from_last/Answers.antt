use Rattle.std.proofs.Common.{arith}
use Rattle.numbered_signals.proofs.Pairs.{actual_at, formal_at, half_is}
use Rattle.numbered_signals.proofs.roots.pair_from_last.Goals as goal

pub overflow_sub-place-2 : goal.overflow_sub-place-2
overflow_sub-place-2 c = omega (arith, c.requires, half_is c.args.pairs.now)

pub returns-clause-formal : goal.returns-clause-formal
returns-clause-formal c = formal_at c.args.pairs.now c.args.index c.requires

pub returns-clause-actual : goal.returns-clause-actual
returns-clause-actual c = actual_at c.args.pairs.now c.args.index c.requires
