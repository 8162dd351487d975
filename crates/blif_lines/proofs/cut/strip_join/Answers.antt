use Rattle.dom_base.proofs.Options.{match_weaker}
use Rattle.blif_lines.proofs.JoinByte.{joined-at, not_joined}
use Rattle.blif_lines.proofs.cut.strip_join.Goals as goal

pub returns : goal.returns
returns c = match_weaker _ _ _ _ c.strip_last.result (not_joined c.args.line.now) (λ front. joined-at c.args.line.now front.now) c.strip_last.ensures
