use Rattle.compound_law.proofs.RightDecks.{chosen_texts_are_right, planned_decks_are_right, planned_texts_are_right}
use Rattle.compound_law.proofs.laws.decks_are_right.Goals as goal

pub returns-clause-decks : goal.returns-clause-decks
returns-clause-decks c = planned_decks_are_right

pub returns-clause-texts : goal.returns-clause-texts
returns-clause-texts c = planned_texts_are_right

pub returns-clause-chosen : goal.returns-clause-chosen
returns-clause-chosen c = chosen_texts_are_right
