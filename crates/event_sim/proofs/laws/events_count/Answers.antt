use Rattle.event_sim.proofs.EventChains.{length-values_after, step_after-count}
use Rattle.event_sim.proofs.laws.events_count.Goals as goal

pub returns : goal.returns
returns c = record { nets = length-values_after; steps = step_after-count }
