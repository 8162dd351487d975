use Rattle.trace_tool.proofs.TraceThere.{there_by}
use Rattle.trace_tool.proofs.laws.trace_is_there.Goals as goal

pub returns : goal.returns
returns c = there_by
