use Rattle.spice_read.proofs.OneAnswer.{one_answer}
use Rattle.spice_read.proofs.laws.text_has_one_answer.Goals as goal

pub returns : goal.returns
returns c = λ text. one_answer text
