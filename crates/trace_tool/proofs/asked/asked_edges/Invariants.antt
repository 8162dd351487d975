use Rattle.std.proofs.Common.{take}
use Rattle.trace_tool.proofs.AskedNets.{IsAskedTo}
use Rattle.trace_tool.proofs.asked.asked_edges.Given as goal

abbrev pub invariant-loop-word : goal.invariant-loop-word
invariant-loop-word l = IsAskedTo l.fn.circuit.nets (take l.word-index l.fn.probes) l.asked.items
