use Rattle.std.proofs.Common.{sym, ◌∙◌}
use Rattle.spice_read.proofs.FrontPieces.{blank_ends, none_unplain}
use Rattle.spice_read.proofs.words.front_piece.Goals as goal

pub returns-in-None-clause-word : goal.returns-in-None-clause-word
returns-in-None-clause-word c = (none_unplain c.args.line.now c.in-None.ensures).0

pub returns-in-None-clause-control : goal.returns-in-None-clause-control
returns-in-None-clause-control c = (none_unplain c.args.line.now c.in-None.ensures).1

pub returns-then-is_blank-clause-word : goal.returns-then-is_blank-clause-word
returns-then-is_blank-clause-word c = (blank_ends c.args.line.now c.in-Some.end c.in-Some.ensures (sym c.is_blank.ensures ∙ c.if-is_blank.true)).0

pub returns-then-is_blank-clause-control : goal.returns-then-is_blank-clause-control
returns-then-is_blank-clause-control c = (blank_ends c.args.line.now c.in-Some.end c.in-Some.ensures (sym c.is_blank.ensures ∙ c.if-is_blank.true)).1
