use Rattle.stage_law.proofs.CellTargets.{falls, precharges, stays_pulled}
use Rattle.stage_law.proofs.laws.precharged_nets_hold.Goals as goal

pub returns-clause-precharged : goal.returns-clause-precharged
returns-clause-precharged c = precharges

pub returns-clause-falls : goal.returns-clause-falls
returns-clause-falls c = falls

pub returns-clause-pulled : goal.returns-clause-pulled
returns-clause-pulled c = stays_pulled
