use Rattle.std.proofs.Common.{rules}
use Rattle.dom_base.proofs.Texts.{IsCut-at, IsCut-whole}
use Rattle.dom_base.proofs.lines.cut_line.Goals as goal

pub returns-in-Some : goal.returns-in-Some
returns-in-Some c = IsCut-at c.args.text.now c.strip_return.result.now c.in-Some.end c.strip_return.ensures c.in-Some.ensures

pub returns-in-None : goal.returns-in-None
returns-in-None c = IsCut-whole c.args.text.now c.strip_return-in-None.result.now (search rules) c.strip_return-in-None.ensures c.in-None.ensures
