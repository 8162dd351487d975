use Rattle.compound_law.proofs.OneDeck.{decks_one, decks_there}
use Rattle.compound_law.proofs.laws.chosen_deck_is_one.Goals as goal

pub returns-clause-there : goal.returns-clause-there
returns-clause-there c = decks_there

pub returns-clause-one : goal.returns-clause-one
returns-clause-one c = decks_one
