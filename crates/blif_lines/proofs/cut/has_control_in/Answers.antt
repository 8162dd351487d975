use Rattle.blif_lines.proofs.PieceEnds.{control-front}
use Rattle.blif_lines.proofs.cut.has_control_in.Goals as goal

pub returns-else-whole : goal.returns-else-whole
returns-else-whole c = λ all front is. control-front c.args.whole c.args.front.now all front is c.if-whole.false
