use Rattle.trace_tool.proofs.OneVerdictOrCause.{verdict_is_one}
use Rattle.trace_tool.proofs.laws.verdict_is_one.Goals as goal

pub returns : goal.returns
returns c = verdict_is_one
