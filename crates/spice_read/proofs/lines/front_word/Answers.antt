use Rattle.dom_base.specs.Lines.{is_blank}
use Rattle.spice_read.proofs.FirstWords.{front_at, front_none}
use Rattle.spice_read.proofs.lines.front_word.Goals as goal

pub returns-in-Some : goal.returns-in-Some
returns-in-Some c = front_at is_blank c.args.line.now c.in-Some.end c.in-Some.ensures

pub returns-in-None : goal.returns-in-None
returns-in-None c = front_none is_blank c.args.line.now c.in-None.ensures
