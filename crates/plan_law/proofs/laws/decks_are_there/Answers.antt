use Rattle.plan_law.proofs.DecksThere.{decks_there, signed_decks_there, texts_there, written_there}
use Rattle.plan_law.proofs.laws.decks_are_there.Goals as goal

pub returns-clause-decks : goal.returns-clause-decks
returns-clause-decks c = decks_there

pub returns-clause-written : goal.returns-clause-written
returns-clause-written c = written_there

pub returns-clause-texts : goal.returns-clause-texts
returns-clause-texts c = texts_there

pub returns-clause-signed : goal.returns-clause-signed
returns-clause-signed c = signed_decks_there
