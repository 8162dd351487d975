use Rattle.port_runs.proofs.RunOrder.{runs_are_cut_anywhere, runs_stand_in_order}
use Rattle.port_runs.proofs.laws.runs_stand_in_order.Goals as goal

pub returns-clause-order : goal.returns-clause-order
returns-clause-order c = runs_stand_in_order

pub returns-clause-cut : goal.returns-clause-cut
returns-clause-cut c = runs_are_cut_anywhere
