-- Those of both lists.
use Rattle.std.proofs.Common.{length, subst, sym}
use Rattle.phase_assign.specs.Uses.{AreBelow}
use Rattle.phase_assign.proofs.Totals.{below_left, below_right}
use Rattle.phase_assign.proofs.TrialLists.{current_both}
use Rattle.phase_assign.proofs.looked.Looked.is_current.Goals as goal

pub are_unchanged-requires : goal.are_unchanged-requires
are_unchanged-requires c =
    subst (AreBelow (length c.args.changed.now)) (sym c.as_slice.ensures.value)
    (below_left (length c.args.changed.now) c.args.self.now.gone.items c.args.self.now.come.items c.requires)

pub are_unchanged-requires-then-are_unchanged : goal.are_unchanged-requires-then-are_unchanged
are_unchanged-requires-then-are_unchanged c =
    subst (AreBelow (length c.args.changed.now)) (sym c.as_slice-then-are_unchanged.ensures.value)
    (below_right (length c.args.changed.now) c.args.self.now.gone.items c.args.self.now.come.items c.requires)

pub returns-then-are_unchanged : goal.returns-then-are_unchanged
returns-then-are_unchanged c = λ e.
    current_both c.args.self.now.gone.items c.args.self.now.come.items c.as_slice.result.now c.as_slice-then-are_unchanged.result.now c.args.changed.now c.args.size c.as_slice.ensures.value
    c.as_slice-then-are_unchanged.ensures.value (c.are_unchanged.ensures c.if-are_unchanged.true) (c.are_unchanged-then-are_unchanged.ensures e)
