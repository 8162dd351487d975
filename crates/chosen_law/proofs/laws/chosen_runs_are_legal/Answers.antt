use Rattle.chosen_law.proofs.Chosen.{evaluation_is_legal, latching_is_legal, power_is_legal}
use Rattle.chosen_law.proofs.laws.chosen_runs_are_legal.Goals as goal

pub returns-clause-power : goal.returns-clause-power
returns-clause-power c = power_is_legal

pub returns-clause-evaluation : goal.returns-clause-evaluation
returns-clause-evaluation c = evaluation_is_legal

pub returns-clause-latching : goal.returns-clause-latching
returns-clause-latching c = latching_is_legal
