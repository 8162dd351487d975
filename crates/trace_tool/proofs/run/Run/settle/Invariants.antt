use Rattle.std.proofs.Common.{◌≤◌, ◌-◌}
use Rattle.trace_tool.proofs.SettlingRuns.{HasRun}
use Rattle.trace_tool.proofs.run.Run.settle.Given as goal

abbrev pub invariant-events : goal.invariant-events
invariant-events g l = record {
  run : HasRun (λ pick step count place. g.F.Fn.post pick (step, (count, tt)) place) l.fn.self l.count l.self;
  within : l.count ≤ l.most;
}

abbrev pub decreases-events : goal.decreases-events
decreases-events g l = l.most - l.count
