use Rattle.compound_law.proofs.LooseDecks.{planned_decks_are_loose}
use Rattle.compound_law.proofs.RightDecks.{planned_circuits_are_honest}
use Rattle.compound_law.proofs.laws.planned_decks_are_loose.Goals as goal

pub returns-clause-loose : goal.returns-clause-loose
returns-clause-loose c = planned_decks_are_loose

pub returns-clause-honest : goal.returns-clause-honest
returns-clause-honest c = planned_circuits_are_honest
