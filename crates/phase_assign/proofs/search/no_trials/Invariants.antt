use Rattle.phase_assign.specs.Trials.{HasNoTrials}
use Rattle.phase_assign.proofs.search.no_trials.Given as goal

abbrev pub invariant-loop : goal.invariant-loop
invariant-loop l = HasNoTrials l.counter l.trials.items
