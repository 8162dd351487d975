use Rattle.std.proofs.Common.{◌≡◌, ◌++◌, take}
use Rattle.std.specs.List.{flat_map}
use Rattle.blif_ast.specs.Printed.{printed_line, table_lines}
use Rattle.blif_ast.proofs.models.put_tables.Given as goal

abbrev pub invariant-loop-table : goal.invariant-loop-table
invariant-loop-table l = l.text.items ≡ l.fn.text.items ++ flat_map (λ table. flat_map printed_line (table_lines table)) (take l.table-index l.tables)
