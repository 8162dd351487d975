use Rattle.std.proofs.Common.{if◌then◌else◌, ap, sym, ◌∙◌}
use Rattle.blif_ast.specs.LogicalLines.{but_last}
use Rattle.blif_lines.proofs.cut.own_part.Goals as goal

pub returns-in-Some : goal.returns-in-Some
returns-in-Some c =
    let line = c.args.line.now in
    c.in-Some.ensures.1 ∙ sym (ap (λ t. if t then but_last line else line) c.in-Some.ensures.0)

pub returns-in-None : goal.returns-in-None
returns-in-None c =
    let line = c.args.line.now in
    sym (ap (λ t. if t then but_last line else line) c.in-None.ensures)
