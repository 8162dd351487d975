use Rattle.cell_decks.proofs.RightTexts.{versions_are_right}
use Rattle.cell_decks.proofs.laws.written_decks_are_right.Goals as goal

pub returns : goal.returns
returns c = versions_are_right
