use Rattle.std.proofs.Common.{take}
use Rattle.synth_flow.specs.TakenCells.{AreTaken}
use Rattle.synth_flow.proofs.taken.taken_cells.Given as goal

abbrev pub invariant-ends : goal.invariant-ends
invariant-ends l = AreTaken l.cells (take l.end-index l.ends) l.taken.items l.numbered.items
