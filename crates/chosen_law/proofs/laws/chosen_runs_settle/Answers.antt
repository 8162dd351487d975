use Rattle.chosen_law.proofs.NeverUnsettled.{cycle_never_unsettled, power_never_unsettled}
use Rattle.chosen_law.proofs.laws.chosen_runs_settle.Goals as goal

pub returns-clause-power : goal.returns-clause-power
returns-clause-power c = power_never_unsettled

pub returns-clause-cycle : goal.returns-clause-cycle
returns-clause-cycle c = cycle_never_unsettled
