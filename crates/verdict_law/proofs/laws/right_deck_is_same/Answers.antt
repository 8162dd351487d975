use Rattle.verdict_law.proofs.RightVerdicts.{right_deck_is_accepted, right_deck_is_same}
use Rattle.verdict_law.proofs.laws.right_deck_is_same.Goals as goal

pub returns-clause-same : goal.returns-clause-same
returns-clause-same c = right_deck_is_same

pub returns-clause-accepted : goal.returns-clause-accepted
returns-clause-accepted c = right_deck_is_accepted
