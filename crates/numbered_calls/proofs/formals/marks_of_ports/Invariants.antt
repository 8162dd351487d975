use Rattle.numbered_calls.proofs.PortRows.{HaveFirstPortMarks}
use Rattle.numbered_calls.proofs.formals.marks_of_ports.Given as goal

abbrev pub invariant-loop-model : goal.invariant-loop-model
invariant-loop-model l = HaveFirstPortMarks l.file l.names l.marks.items l.model
