use Rattle.std.proofs.Common.{List}
use Rattle.blif_ast.specs.declared.letter.Letter.{Letter}
use Rattle.blif_ast.specs.Printed.{printed_line, row_words}
use Rattle.net_flatten.proofs.TextOfNetwork.{appended_next}
use Rattle.net_flatten.proofs.printing.put_rows.Goals as goal

pub loop-k-preserved : goal.loop-k-preserved
loop-k-preserved c = appended_next (λ (row : List Letter). printed_line (row_words c.args.on row)) c.args.rows.now c.loop-k.k c.list.result.now c.args.text.now.items
    c.loop-k.text.items c.put_row.new.text.items c.list.ensures c.loop-k.invariant c.in_ok-put_row.ensures
