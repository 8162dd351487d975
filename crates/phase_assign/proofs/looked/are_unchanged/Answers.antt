-- A pair more.
use Rattle.std.proofs.Common.{◌≤◌, false, subst}
use Rattle.phase_assign.proofs.TrialLists.{current_next}
use Rattle.phase_assign.proofs.looked.are_unchanged.Goals as goal

pub loop-pair-preserved : goal.loop-pair-preserved
loop-pair-preserved c =
    current_next c.args.pairs.now c.loop-pair.pair-index (record { node = 0; plus = false }) c.args.changed.now c.args.size c.loop-pair-test.true c.loop-pair.invariant
    (subst (λ m. c.args.size ≤ m) c.from.ensures c.if-from-size.false)
