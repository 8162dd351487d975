use Rattle.std.proofs.Common.{◌≡◌, ◌≤◌, ◌+◌, length}
use Rattle.dom_base.specs.Lines.{lines}
use Rattle.dom_base.specs.Cuts.{NumbersFit}
use Rattle.blif_ast.specs.LogicalLines.{logical_lines_from}
use Rattle.blif_lines.specs.TextPlaces.{IsRestOf}
use Rattle.blif_lines.proofs.lines.Lines.next.Given as goal

pub record Skips (l : goal.Live-lines) : Type 0 where
  pub text : l.self.text ≡ l.fn.self.text
  pub rest : IsRestOf l.self.text.now l.self.rest.now
  pub fit : NumbersFit l.self.number l.self.rest.now
  pub count : l.self.number + length (lines l.self.rest.now) ≡ l.fn.self.number + length (lines l.fn.self.rest.now)
  pub no_longer : length l.self.rest.now ≤ length l.fn.self.rest.now
  pub lines_are : logical_lines_from l.fn.self.number (lines l.fn.self.rest.now) ≡ logical_lines_from l.self.number (lines l.self.rest.now)

abbrev pub invariant-lines : goal.invariant-lines
invariant-lines l = Skips l

abbrev pub decreases-lines : goal.decreases-lines
decreases-lines l = length l.self.rest.now
