use Rattle.event_sim.proofs.ProbeLooks.{NoHitBelow}
use Rattle.event_sim.proofs.probe_set.ProbeSet.hits.Given as goal

abbrev pub invariant-loop-key : goal.invariant-loop-key
invariant-loop-key g l = NoHitBelow l.fn.self l.fn.event l.key
