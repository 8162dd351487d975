use Rattle.std.proofs.Common.{◌≡◌, ◌++◌, take}
use Rattle.std.specs.List.{flat_map}
use Rattle.blif_ast.specs.Printed.{printed_line, row_words}
use Rattle.net_flatten.proofs.printing.put_rows.Given as goal

abbrev pub invariant-loop-k : goal.invariant-loop-k
invariant-loop-k l = l.text.items ≡ l.fn.text.items ++ flat_map (λ row. printed_line (row_words l.on row)) (take l.k l.rows)
