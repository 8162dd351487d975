use Rattle.std.proofs.Common.{sym}
use Rattle.blif_lines.specs.Pieces.{ends_word}
use Rattle.blif_lines.proofs.PieceEnds.{place_is, place_none}
use Rattle.blif_lines.proofs.cut.parting_place.Goals as goal

pub returns-in-None : goal.returns-in-None
returns-in-None c = sym (place_none ends_word c.args.text.now (sym c.in-None.ensures))

pub returns-in-Some : goal.returns-in-Some
returns-in-Some c = sym (place_is ends_word c.args.text.now c.in-Some.end (sym c.in-Some.ensures))
