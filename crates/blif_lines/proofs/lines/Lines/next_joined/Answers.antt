use Rattle.std.proofs.Common.{ap, map, refl, arith, subst, ◌∙◌}
use Rattle.blif_lines.proofs.JoinedLines.{first_piece_of, more_pieces, count_piece}
use Rattle.blif_lines.specs.Pieces.{IsNoted}
use Rattle.blif_lines.proofs.lines.Lines.next_joined.Goals as goal

pub pieces-init : goal.pieces-init
pieces-init c = record {
  text = c.in_ok-goes_on.ensures.text;
  rest = c.in_ok-goes_on.ensures.rest;
  fit = c.in_ok-goes_on.ensures.fit;
  count = count_piece _ c.in_ok-goes_on.ensures.number c.in_ok-goes_on.ensures.piece;
  shorter = c.in_ok-goes_on.ensures.shorter;
  first = refl;
  lines_are = first_piece_of _ (ap (map (λ w. w.now)) c.clear.ensures.items) c.in_ok-goes_on.ensures.number c.in_ok-goes_on.ensures.piece;
  noted = c.in_ok-goes_on.ensures.noted;
}

pub pieces-preserved : goal.pieces-preserved
pieces-preserved c =
    let before = c.pieces.invariant in
    let step = c.in_ok-goes_on-2.ensures in
    record {
      text = step.text ∙ before.text;
      rest = step.rest;
      fit = step.fit;
      count = count_piece _ step.number step.piece ∙ before.count;
      shorter = omega (arith, step.shorter, before.shorter);
      first = refl;
      lines_are = more_pieces _ _ c.pieces.goes_on c.pieces-test.true before.lines_are step.number step.piece;
      noted = subst (λ t. IsNoted t.now (map (λ w. w.now) c.next_piece-in-pieces.new.words.items) c.next_piece-in-pieces.new.notes.has_control c.next_piece-in-pieces.new.notes.place) before.text step.noted;
    }
