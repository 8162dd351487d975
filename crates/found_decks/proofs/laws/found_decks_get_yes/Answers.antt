use Rattle.found_decks.proofs.FoundDecks as laws
use Rattle.found_decks.proofs.laws.found_decks_get_yes.Goals as goal

pub returns : goal.returns
returns c = laws.found_decks_get_yes
