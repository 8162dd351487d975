use Rattle.std.proofs.Common.{take}
use Rattle.numbered_calls.specs.PortMarks.{AreMarked}
use Rattle.numbered_calls.proofs.port_marks.PortMarks.mark_all.Given as goal

abbrev pub invariant-loop-place : goal.invariant-loop-place
invariant-loop-place l = AreMarked l.fn.self (take l.place-index l.places) l.mark l.mark l.self
