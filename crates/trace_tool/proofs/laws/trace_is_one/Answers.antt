use Rattle.trace_tool.proofs.OneTrace.{trace_is_one}
use Rattle.trace_tool.proofs.laws.trace_is_one.Goals as goal

pub returns : goal.returns
returns c = trace_is_one
