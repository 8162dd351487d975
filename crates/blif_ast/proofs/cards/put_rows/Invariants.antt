use Rattle.std.proofs.Common.{◌≡◌, ◌++◌, take}
use Rattle.std.specs.List.{flat_map}
use Rattle.blif_ast.specs.Printed.{printed_line, row_words}
use Rattle.blif_ast.proofs.cards.put_rows.Given as goal

abbrev pub invariant-loop-row : goal.invariant-loop-row
invariant-loop-row l = l.text.items ≡ l.fn.text.items ++ flat_map (λ row. printed_line (row_words l.on row)) (take l.row-index l.rows)
