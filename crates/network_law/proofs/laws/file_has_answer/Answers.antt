use Rattle.network_law.proofs.Answered.{has_answer}
use Rattle.network_law.proofs.laws.file_has_answer.Goals as goal

pub returns : goal.returns
returns c = has_answer
