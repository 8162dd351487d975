use Rattle.domino_cell.proofs.SmallestCell.{and_holds_cell}
use Rattle.domino_cell.proofs.worked.smallest_cell_is_a_cell.Goals as goal

pub returns-clause-holds : goal.returns-clause-holds
returns-clause-holds c = and_holds_cell
