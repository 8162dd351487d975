use Rattle.trace_tool.proofs.VerdictThere.{verdict_is_there}
use Rattle.trace_tool.proofs.laws.verdict_is_there.Goals as goal

pub returns : goal.returns
returns c = verdict_is_there
