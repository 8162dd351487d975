use Rattle.skew_law.proofs.BufferedDecks.{buffered_decks_are_honest, buffered_decks_are_right, buffered_decks_hold_targets, buffered_texts_are_right}
use Rattle.skew_law.proofs.laws.overlapping_decks_are_right.Goals as goal

pub returns-clause-buffered : goal.returns-clause-buffered
returns-clause-buffered c = buffered_decks_are_right

pub returns-clause-texts : goal.returns-clause-texts
returns-clause-texts c = buffered_texts_are_right

pub returns-clause-honest : goal.returns-clause-honest
returns-clause-honest c = buffered_decks_are_honest

pub returns-clause-held : goal.returns-clause-held
returns-clause-held c = buffered_decks_hold_targets
