use Rattle.trace_tool.proofs.OneAnswer.{answer_by}
use Rattle.trace_tool.proofs.laws.answer_is_one.Goals as goal

pub returns : goal.returns
returns c = answer_by
