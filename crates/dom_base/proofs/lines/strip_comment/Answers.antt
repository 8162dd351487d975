use Rattle.dom_base.proofs.Texts.{comment_at, no_comment}
use Rattle.dom_base.proofs.lines.strip_comment.Goals as goal

pub returns-in-Some : goal.returns-in-Some
returns-in-Some c = comment_at c.args.line.now c.in-Some.end c.in-Some.ensures

pub returns-in-None : goal.returns-in-None
returns-in-None c = no_comment c.args.line.now c.in-None.ensures
