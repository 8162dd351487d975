use Rattle.std.proofs.Common.{length}
use Rattle.blif_numbers.proofs.Reading.{Reads}
use Rattle.blif_numbers.proofs.reader.read_by.Given as goal

abbrev pub invariant-lines : goal.invariant-lines
invariant-lines l = Reads l.fn.text l.builder l.lines.text.now l.lines.number l.lines.rest.now

abbrev pub decreases-lines : goal.decreases-lines
decreases-lines l = length l.lines.rest.now
