use Rattle.deck_form.proofs.ClockOrder.{clocks_rise}
use Rattle.deck_form.proofs.DeckForms.{chosen_decks_are_domino, planned_decks_are_domino, domino_decks_are_loose}
use Rattle.deck_form.proofs.laws.decks_are_domino.Goals as goal

pub returns-clause-planned : goal.returns-clause-planned
returns-clause-planned c = planned_decks_are_domino

pub returns-clause-chosen : goal.returns-clause-chosen
returns-clause-chosen c = chosen_decks_are_domino

pub returns-clause-loose : goal.returns-clause-loose
returns-clause-loose c = domino_decks_are_loose

pub returns-clause-clocks : goal.returns-clause-clocks
returns-clause-clocks c = clocks_rise
