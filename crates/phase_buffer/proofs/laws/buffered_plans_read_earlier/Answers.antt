use Rattle.phase_buffer.proofs.PlanReaders.{plans_read_earlier}
use Rattle.phase_buffer.proofs.laws.buffered_plans_read_earlier.Goals as goal

pub returns : goal.returns
returns c = plans_read_earlier
