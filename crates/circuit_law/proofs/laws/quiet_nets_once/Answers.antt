use Rattle.circuit_law.proofs.Quiet.{quiet_once}
use Rattle.circuit_law.proofs.laws.quiet_nets_once.Goals as goal

pub returns : goal.returns
returns c = quiet_once
