use Rattle.std.proofs.Common.{◌-◌, ◌≤◌, length}
use Rattle.trace_tool.proofs.ComparedRuns.{HasCompared}
use Rattle.trace_tool.proofs.run.Run.compare_cycles.Given as goal

abbrev pub invariant-cycles : goal.invariant-cycles
invariant-cycles g l = record {
  compared : HasCompared (λ pick step count place. g.F.Fn.post pick (step, (count, tt)) place) l.fn.self l.fn.runner l.cycles l.number l.self l.runner;
  within : l.number ≤ length l.cycles;
}

abbrev pub decreases-cycles : goal.decreases-cycles
decreases-cycles g l = length l.cycles - l.number
