use Rattle.switch_model.proofs.Locality.{target-kept, pending-kept}
use Rattle.switch_model.proofs.laws.local_targets.Goals as goal

pub returns-clause-targets : goal.returns-clause-targets
returns-clause-targets c = λ devices is_source x before after net v differ other apart. target-kept devices is_source x before after net differ other apart v

pub returns-clause-pending : goal.returns-clause-pending
returns-clause-pending c = pending-kept
