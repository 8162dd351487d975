use Rattle.std.proofs.Common.{◌++◌, ◌∙◌, zero-add}
use Rattle.std.specs.Fmt.{decimal}
use Rattle.net_gen.proofs.Rows.{pushed_behind}
use Rattle.net_gen.proofs.names.push_numbered.Goals as goal

pub numbers-preserved : goal.numbers-preserved
numbers-preserved c =
    pushed_behind (λ number. c.args.letter.now ++ decimal number) c.args.names.now 0 c.numbers.number c.numbers.number (zero-add c.numbers.number)
    c.in_ok-push.ensures.list c.numbers.invariant (c.as_slice.ensures ∙ c.in_ok-name.ensures)
