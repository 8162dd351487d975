use Rattle.stim_text.proofs.OneAnswer.{one_answer}
use Rattle.stim_text.proofs.laws.text_has_one_answer.Goals as goal

pub returns : goal.returns
returns c = λ width text. one_answer width text
