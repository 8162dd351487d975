use Rattle.std.proofs.Common.{◌≡◌, take}
use Rattle.trace_tool.specs.Moves.{set_bits}
use Rattle.trace_tool.specs.RunData.{with_move}
use Rattle.trace_tool.proofs.ports.set_ports.Given as goal

abbrev pub invariant-loop-number : goal.invariant-loop-number
invariant-loop-number g l = l.sim ≡ with_move l.fn.sim (set_bits l.port (take l.number l.bits))
