-- A use less.
use Rattle.std.proofs.Common.{false}
use Rattle.phase_assign.specs.Uses.{used}
use Rattle.phase_assign.proofs.Totals.{at_first, item_taken}
use Rattle.phase_assign.proofs.needed.take_uses.Goals as goal

pub take_use-requires-clause-some : goal.take_use-requires-clause-some
take_use-requires-clause-some c =
    at_first c.args.pairs.now c.loop-pair.pair-index (record { node = 0; plus = false }) c.loop-pair-test.true (used c.loop-pair.uses) (used c.args.uses.now)
    (λ n s. c.loop-pair.invariant n s) (λ n s. c.requires.some n s)

pub loop-pair-preserved : goal.loop-pair-preserved
loop-pair-preserved c = λ n s.
    item_taken c.args.pairs.now c.loop-pair.pair-index (record { node = 0; plus = false }) c.loop-pair-test.true n s (used c.loop-pair.uses n s) (used c.args.uses.now n s) (used c.take_use.new.uses n s)
    (c.loop-pair.invariant n s) (c.take_use.ensures.uses n s)
