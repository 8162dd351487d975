use Rattle.std.proofs.Common.{sym}
use Rattle.blif_lines.proofs.cut.is_joined.Goals as goal

pub returns-in-Some : goal.returns-in-Some
returns-in-Some c = sym c.in-Some.ensures.0

pub returns-in-None : goal.returns-in-None
returns-in-None c = sym c.in-None.ensures
