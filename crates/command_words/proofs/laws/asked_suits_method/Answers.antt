use Rattle.command_words.proofs.AskedMethods.{asks_suited}
use Rattle.command_words.proofs.laws.asked_suits_method.Goals as goal

pub returns : goal.returns
returns c = asks_suited
