use Rattle.std.proofs.Common.{◌≡◌, map, take}
use Rattle.port_runs.specs.Environment.{bit}
use Rattle.trace_tool.specs.Traces.{outputs}
use Rattle.trace_tool.proofs.run.Run.first_wrong.Given as goal

abbrev pub invariant-loop-index : goal.invariant-loop-index
invariant-loop-index g l = take l.index (map bit l.wanted) ≡ take l.index (outputs l.self.setup.roles l.self.state.values)
