use Rattle.phase_buffer.proofs.DeckSizes.{decks_fit, decks_small}
use Rattle.phase_buffer.proofs.PlanSizes.{chains_short, plans_few, plans_small}
use Rattle.phase_buffer.proofs.laws.buffers_are_few.Goals as goal

pub returns-clause-short : goal.returns-clause-short
returns-clause-short c = chains_short

pub returns-clause-plans : goal.returns-clause-plans
returns-clause-plans c = plans_few

pub returns-clause-devices : goal.returns-clause-devices
returns-clause-devices c = plans_small

pub returns-clause-decks : goal.returns-clause-decks
returns-clause-decks c = decks_small

pub returns-clause-fit : goal.returns-clause-fit
returns-clause-fit c = decks_fit
