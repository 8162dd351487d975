use Rattle.circuit_law.proofs.RestOrEvent.{rest_or_event}
use Rattle.circuit_law.proofs.laws.rests_or_has_event.Goals as goal

pub returns : goal.returns
returns c = rest_or_event
