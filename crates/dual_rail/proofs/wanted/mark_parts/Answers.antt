-- Both parts are marked.
use Rattle.dual_rail.proofs.Marks.{parts_marked}
use Rattle.dual_rail.proofs.wanted.mark_parts.Goals as goal

pub returns-in-And : goal.returns-in-And
returns-in-And c =
    parts_marked c.args.wanted.now c.mark-in-And.new.wanted c.mark-in-And-2.new.wanted c.args.signs c.args.node c.in-And.left c.in-And.right c.in-And.is
    (λ n s. c.mark-in-And.ensures n s) (λ n s. c.mark-in-And-2.ensures n s)
