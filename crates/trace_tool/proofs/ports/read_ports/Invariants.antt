use Rattle.std.proofs.Common.{◌≡◌}
use Rattle.trace_tool.specs.RunData.{values_from}
use Rattle.trace_tool.proofs.ports.read_ports.Given as goal

abbrev pub invariant-loop-number : goal.invariant-loop-number
invariant-loop-number g l = l.values.items ≡ values_from l.port l.number l.sim.values
