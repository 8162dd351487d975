-- A sink more.
use Rattle.phase_assign.proofs.TrialSteps.{no_trials_next}
use Rattle.phase_assign.proofs.search.no_trials.Goals as goal

pub loop-preserved : goal.loop-preserved
loop-preserved c = no_trials_next c.loop.trials.items c.push.new.self.items c.loop.counter c.loop.invariant c.in_ok-push.ensures.items
