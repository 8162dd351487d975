use Rattle.std.proofs.Common.{rules}
use Rattle.blif_ast.proofs.CardLines.{row_end}
use Rattle.net_flatten.proofs.printing.put_row.Goals as goal

pub returns : goal.returns
returns c = rw (row_end c.args.text.now.items c.args.on c.args.letters.now) (search rules)
