use Rattle.plan_law.proofs.LeastDecks.{chosen_decks_are_least, signed_decks_have_least_covers}
use Rattle.plan_law.proofs.laws.chosen_decks_are_least.Goals as goal

pub returns-clause-signed : goal.returns-clause-signed
returns-clause-signed c = signed_decks_have_least_covers

pub returns-clause-chosen : goal.returns-clause-chosen
returns-clause-chosen c = chosen_decks_are_least
