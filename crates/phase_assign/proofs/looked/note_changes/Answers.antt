-- A pair more.
use Rattle.std.proofs.Common.{subst, sym, false}
use Rattle.phase_assign.specs.Uses.{AreBelow}
use Rattle.phase_assign.proofs.TrialLists.{noted_all, noted_next}
use Rattle.phase_assign.proofs.looked.note_changes.Goals as goal

pub loop-pair-preserved : goal.loop-pair-preserved
loop-pair-preserved c =
    noted_next c.args.pairs.now c.loop-pair.pair-index (record { node = 0; plus = false }) c.args.changed.now c.loop-pair.changed c.args.size c.loop-pair-test.true
    (subst (λ n. AreBelow n c.args.pairs.now) (sym c.loop-pair.auto.changed) c.requires) c.loop-pair.invariant

pub returns : goal.returns
returns c = noted_all c.args.pairs.now c.loop-pair.pair-index c.args.changed.now c.loop-pair.changed c.args.size c.loop-pair-test.false c.loop-pair.invariant
