use Rattle.held_law.proofs.HeldPorts.{decks_hold_targets}
use Rattle.held_law.proofs.HeldRuns.{held_cells_hold_targets}
use Rattle.held_law.proofs.laws.held_cells_hold_targets.Goals as goal

pub returns-clause-nets : goal.returns-clause-nets
returns-clause-nets c = held_cells_hold_targets

pub returns-clause-ports : goal.returns-clause-ports
returns-clause-ports c = decks_hold_targets
