use Rattle.circuit_law.proofs.Counts.{events_bound}
use Rattle.circuit_law.proofs.laws.events_are_bounded.Goals as goal

pub returns : goal.returns
returns c = λ devices is_source gates quiet low size. events_bound devices is_source gates quiet low size
