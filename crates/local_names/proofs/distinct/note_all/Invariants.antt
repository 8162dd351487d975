use Rattle.std.proofs.Common.{length}
use Rattle.local_names.proofs.KeptNumbers.{AreNotedBehind}
use Rattle.local_names.proofs.distinct.note_all.Given as goal

abbrev pub invariant-numbers : goal.invariant-numbers
invariant-numbers l = AreNotedBehind (length l.fn.place) l.numbers l.rest l.fn.kept.items l.kept.items l.place

abbrev pub decreases-numbers : goal.decreases-numbers
decreases-numbers l = length l.rest
