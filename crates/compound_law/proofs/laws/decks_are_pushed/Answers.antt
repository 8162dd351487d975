use Rattle.compound_law.proofs.NamedCells.{decks_are_pushed}
use Rattle.compound_law.proofs.laws.decks_are_pushed.Goals as goal

pub returns : goal.returns
returns c = decks_are_pushed
