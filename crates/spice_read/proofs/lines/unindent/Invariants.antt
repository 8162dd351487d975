use Rattle.std.proofs.Common.{◌≡◌, length}
use Rattle.dom_base.specs.Lines.{unindented}
use Rattle.spice_read.proofs.lines.unindent.Given as goal

abbrev pub invariant-blanks : goal.invariant-blanks
invariant-blanks l = unindented l.fn.line ≡ unindented l.rest

abbrev pub decreases-blanks : goal.decreases-blanks
decreases-blanks l = length l.rest
