-- A simple cell is the cell with precharged inner nets: its static gate is the inverter of its dynamic net.
use Rattle.std.proofs.Common.{sym}
use Rattle.sp_network.specs.Tree.{map_tree}
use Rattle.domino_cell.specs.PushedNames.{numbered_cell}
use Rattle.domino_cell.specs.declared.style.Style.TheVariants.{Precharge as WithPrecharge}
use Rattle.domino_cell.proofs.StyledCells.{styled_cell-parts}
use Rattle.compound_cell.specs.CompoundCells.{SimpleCellsAreStyled}

pub simple_cells_are_styled : SimpleCellsAreStyled
simple_cells_are_styled = λ name clock k tree. sym (styled_cell-parts WithPrecharge (numbered_cell clock k) (map_tree name tree))
