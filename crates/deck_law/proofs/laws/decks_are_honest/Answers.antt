use Rattle.deck_law.proofs.HonestDecks.{planned_circuits_are_honest, right_decks_are_honest}
use Rattle.deck_law.proofs.laws.decks_are_honest.Goals as goal

pub returns-clause-decks : goal.returns-clause-decks
returns-clause-decks c = right_decks_are_honest

pub returns-clause-circuits : goal.returns-clause-circuits
returns-clause-circuits c = planned_circuits_are_honest
