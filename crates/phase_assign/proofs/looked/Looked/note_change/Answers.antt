-- Those of both lists.
use Rattle.std.proofs.Common.{length, get_or, subst, sym}
use Rattle.phase_assign.specs.Uses.{AreBelow}
use Rattle.phase_assign.proofs.Totals.{below_left, below_right}
use Rattle.phase_assign.proofs.TrialLists.{noted_both}
use Rattle.phase_assign.proofs.looked.Looked.note_change.Goals as goal

pub note_changes-requires : goal.note_changes-requires
note_changes-requires c =
    subst (AreBelow (length c.args.changed.now)) (sym c.as_slice.ensures.value)
    (below_left (length c.args.changed.now) c.args.self.now.gone.items c.args.self.now.come.items c.requires)

pub note_changes-requires-2 : goal.note_changes-requires-2
note_changes-requires-2 c =
    subst (λ n. AreBelow n c.as_slice-2.result.now) (sym c.note_changes.auto.changed)
    (subst (AreBelow (length c.args.changed.now)) (sym c.as_slice-2.ensures.value)
    (below_right (length c.args.changed.now) c.args.self.now.gone.items c.args.self.now.come.items c.requires))

pub returns : goal.returns
returns c = λ n.
    noted_both c.args.self.now.gone.items c.args.self.now.come.items c.as_slice.result.now c.as_slice-2.result.now (get_or c.args.changed.now n 0) (get_or c.note_changes.new.changed n 0)
    (get_or c.note_changes-2.new.changed n 0) c.args.size n c.as_slice.ensures.value c.as_slice-2.ensures.value (c.note_changes.ensures n) (c.note_changes-2.ensures n)
