use Rattle.std.proofs.Common.{rules}
use Rattle.blif_ast.proofs.CardLines.{ports_end}
use Rattle.blif_ast.proofs.cards.put_ports.Goals as goal

pub returns-in_ok-append_word-in-Some : goal.returns-in_ok-append_word-in-Some
returns-in_ok-append_word-in-Some c = rw c.in-Some.ensures.cases.0 (search (rules, ports_end))
