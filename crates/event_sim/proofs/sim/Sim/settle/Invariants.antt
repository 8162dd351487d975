use Rattle.std.proofs.Common.{◌≤◌, ◌-◌}
use Rattle.event_sim.proofs.EventChains.{HasRun}
use Rattle.event_sim.proofs.sim.Sim.settle.Given as goal

abbrev pub invariant-events : goal.invariant-events
invariant-events g l = record {
  run : HasRun (λ step count place. g.F.Fn.post l.fn.self.pick (step, (count, tt)) place) l.fn.self l.count l.self;
  within : l.count ≤ l.most;
}

abbrev pub decreases-events : goal.decreases-events
decreases-events g l = l.most - l.count
