use Rattle.std.proofs.Common.{length, ◌-◌, ◌≤◌, ◌+◌}
use Rattle.numbered_calls.proofs.Marking.{AreLooked}
use Rattle.numbered_calls.proofs.port_marks.PortMarks.mark_formals.Given as goal

abbrev pub invariant-formals : goal.invariant-formals
invariant-formals l = AreLooked l.words l.fn.self l.mark l.at l.self × (l.at ≤ length l.words + 1)

abbrev pub decreases-formals : goal.decreases-formals
decreases-formals l = length l.words - l.at
