use Rattle.std.proofs.Common.{arith}
use Rattle.local_names.proofs.Searches.{not_before-next, not_contained}
use Rattle.local_names.proofs.distinct.first_index.Goals as goal

pub loop-index-preserved : goal.loop-index-preserved
loop-index-preserved c = not_before-next c.args.numbers.now c.args.number c.loop-index.index c.number_at.result c.loop-index.invariant c.number_at.ensures
    c.if-number_at-number.false

pub returns-clause-none : goal.returns-clause-none
returns-clause-none c = λ none. not_contained c.args.numbers.now c.args.number c.loop-index.index c.loop-index.invariant (omega (arith, c.loop-index-test.false))
