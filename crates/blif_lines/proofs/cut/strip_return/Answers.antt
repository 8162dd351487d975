use Rattle.std.proofs.Common.{ap, ◌∙◌, sym}
use Rattle.dom_base.specs.Lines.{without_return}
use Rattle.dom_base.proofs.Texts.{without_return-at, without_return-no_end}
use Rattle.blif_lines.proofs.cut.strip_return.Goals as goal

pub returns-in-Some : goal.returns-in-Some
returns-in-Some c = sym (ap without_return c.in-Some.ensures ∙ without_return-at c.in-Some.front.now)

pub returns-in-None : goal.returns-in-None
returns-in-None c = without_return-no_end c.args.line.now c.in-None.ensures
