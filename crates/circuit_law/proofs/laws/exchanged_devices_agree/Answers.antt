use Rattle.circuit_law.proofs.ExchangedTargets.{events_agree, targets_agree}
use Rattle.circuit_law.proofs.laws.exchanged_devices_agree.Goals as goal

pub returns-clause-targets : goal.returns-clause-targets
returns-clause-targets c = targets_agree

pub returns-clause-events : goal.returns-clause-events
returns-clause-events c = events_agree
