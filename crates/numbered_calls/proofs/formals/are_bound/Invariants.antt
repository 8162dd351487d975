use Rattle.std.proofs.Common.{◌+◌}
use Rattle.numbered_calls.specs.BoundFormals.{AreBoundBelow, HavePortMarks}
use Rattle.numbered_calls.proofs.formals.are_bound.Given as goal

abbrev pub invariant-loop-index : goal.invariant-loop-index
invariant-loop-index l = HavePortMarks l.file l.names (l.index + 3) l.marks.items × AreBoundBelow l.file l.names l.units l.index
