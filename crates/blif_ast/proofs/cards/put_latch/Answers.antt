use Rattle.std.proofs.Common.{rules}
use Rattle.blif_ast.proofs.CardLines.{latch_end}
use Rattle.blif_ast.proofs.cards.put_latch.Goals as goal

pub returns : goal.returns
returns c = search (rules, latch_end)
