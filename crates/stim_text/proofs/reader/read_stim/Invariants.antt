use Rattle.std.proofs.Common.{length}
use Rattle.stim_text.proofs.ReadLines.{ReadsBits}
use Rattle.stim_text.proofs.reader.read_stim.Given as goal

abbrev pub invariant-lines : goal.invariant-lines
invariant-lines l = ReadsBits l.width l.fn.text l.number l.rest l.count l.bits.items

abbrev pub decreases-lines : goal.decreases-lines
decreases-lines l = length l.rest
