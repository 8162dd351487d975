use Rattle.std.proofs.Common.{◌≡◌, ◌++◌, take}
use Rattle.std.specs.List.{flat_map}
use Rattle.blif_ast.specs.Printed.{printed_line, table_lines}
use Rattle.net_flatten.specs.OneModelParts.{tables_here}
use Rattle.net_flatten.proofs.printing.put_tables.Given as goal

abbrev pub invariant-loop-k : goal.invariant-loop-k
invariant-loop-k l = l.text.items ≡ l.fn.text.items ++ flat_map (λ table. flat_map printed_line (table_lines table)) (take l.k (tables_here l.fn.network))
