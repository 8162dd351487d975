use Rattle.std.proofs.Common.{◌≡◌, map, take}
use Rattle.blif_ast.specs.Models.{row_at}
use Rattle.file_copies.proofs.copy.rows_at.Given as goal

abbrev pub invariant-loop-place : goal.invariant-loop-place
invariant-loop-place l = l.rows.items ≡ map (row_at l.text l.width) (take l.place-index l.places)
