use Rattle.net_gen.proofs.AcceptedTexts.{generated_is_accepted}
use Rattle.net_gen.proofs.laws.generated_text_is_accepted.Goals as goal

pub returns : goal.returns
returns c = generated_is_accepted
