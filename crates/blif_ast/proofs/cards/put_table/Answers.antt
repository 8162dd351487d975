use Rattle.std.proofs.Common.{rules}
use Rattle.blif_ast.proofs.FileLines.{table_end}
use Rattle.blif_ast.proofs.cards.put_table.Goals as goal

pub returns : goal.returns
returns c = search (rules, table_end)
