use Rattle.compound_law.proofs.WorkedDecks.{or_deck_is_planned}
use Rattle.compound_law.proofs.laws.worked_deck_is_planned.Goals as goal

pub returns : goal.returns
returns c = or_deck_is_planned
