use Rattle.std.proofs.Common.{◌≡◌, ◌+◌, map, length}
use Rattle.blif_lines.specs.Pieces.{IsNoted, IsWordEnd}
use Rattle.blif_lines.proofs.PieceEnds.{IsCutting}
use Rattle.blif_lines.proofs.lines.Lines.next_piece.Given as goal

pub record Cuts (l : goal.Live-words) : Type 0 where
  pub text : l.self.text ≡ l.fn.self.text
  pub number : l.self.number ≡ l.fn.self.number + 1
  pub end : IsWordEnd l.self.rest.now l.word.end l.word.has_control
  pub cutting : IsCutting l.fn.self.text.now l.fn.self.rest.now (map (λ w. w.now) l.fn.words.items) l.self.rest.now (map (λ w. w.now) l.words.items)
  pub noted : IsNoted l.fn.self.text.now (map (λ w. w.now) l.words.items) l.notes.has_control l.notes.place

abbrev pub invariant-words : goal.invariant-words
invariant-words l = Cuts l

abbrev pub decreases-words : goal.decreases-words
decreases-words l = length l.self.rest.now
