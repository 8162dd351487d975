use Rattle.std.proofs.Common.{◌≡◌, ◌<◌, ◌+◌, map, length}
use Rattle.dom_base.specs.Lines.{lines}
use Rattle.dom_base.specs.Cuts.{NumbersFit}
use Rattle.blif_lines.specs.Cuts.{worded_lines, with_words}
use Rattle.blif_lines.specs.Pieces.{IsNoted}
use Rattle.blif_lines.specs.TextPlaces.{IsRestOf}
use Rattle.blif_lines.proofs.lines.Lines.next_joined.Given as goal

pub record Joins (l : goal.Live-pieces) : Type 0 where
  pub text : l.self.text ≡ l.fn.self.text
  pub rest : IsRestOf l.self.text.now l.self.rest.now
  pub fit : NumbersFit l.self.number l.self.rest.now
  pub count : l.self.number + length (lines l.self.rest.now) ≡ l.fn.self.number + length (lines l.fn.self.rest.now)
  pub shorter : length l.self.rest.now < length l.fn.self.rest.now
  pub first : l.number ≡ l.fn.self.number
  pub lines_are : worded_lines l.fn.self.number (lines l.fn.self.rest.now)
      ≡ with_words l.goes_on l.number (map (λ w. w.now) l.words.items) (worded_lines l.self.number (lines l.self.rest.now))
  pub noted : IsNoted l.fn.self.text.now (map (λ w. w.now) l.words.items) l.notes.has_control l.notes.place

abbrev pub invariant-pieces : goal.invariant-pieces
invariant-pieces l = Joins l

abbrev pub decreases-pieces : goal.decreases-pieces
decreases-pieces l = length l.self.rest.now
