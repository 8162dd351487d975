use Rattle.domsyn.proofs.OwnDecks.{own_deck_same}
use Rattle.domsyn.proofs.laws.own_deck_is_same.Goals as goal

pub returns : goal.returns
returns c = own_deck_same
