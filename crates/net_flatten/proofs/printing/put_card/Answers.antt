use Rattle.std.proofs.Common.{rules}
use Rattle.blif_ast.proofs.LineWords.{line_end}
use Rattle.net_flatten.proofs.printing.put_card.Goals as goal

pub returns : goal.returns
returns c = search (rules, line_end)
