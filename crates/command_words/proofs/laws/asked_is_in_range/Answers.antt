use Rattle.command_words.proofs.AskedOnce.{asks_in_range}
use Rattle.command_words.proofs.laws.asked_is_in_range.Goals as goal

pub returns : goal.returns
returns c = asks_in_range
