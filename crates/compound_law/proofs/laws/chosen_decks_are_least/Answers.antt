use Rattle.compound_law.proofs.LeastDecks.{chosen_decks_are_least}
use Rattle.compound_law.proofs.laws.chosen_decks_are_least.Goals as goal

pub returns : goal.returns
returns c = chosen_decks_are_least
