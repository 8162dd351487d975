use Rattle.compound_cell.proofs.CompoundCells.{simple_cells_are_styled}
use Rattle.compound_cell.proofs.laws.simple_cells_are_styled.Goals as goal

pub returns : goal.returns
returns c = simple_cells_are_styled
