use Rattle.plan_law.proofs.OneDeck.{decks_one, signed_decks_one, synth_texts_one, texts_one}
use Rattle.plan_law.proofs.laws.decks_are_one.Goals as goal

pub returns-clause-decks : goal.returns-clause-decks
returns-clause-decks c = decks_one

pub returns-clause-written : goal.returns-clause-written
returns-clause-written c = texts_one

pub returns-clause-texts : goal.returns-clause-texts
returns-clause-texts c = synth_texts_one

pub returns-clause-signed : goal.returns-clause-signed
returns-clause-signed c = signed_decks_one
