use Rattle.std.proofs.Common.{take}
use Rattle.local_names.specs.Placed.{IsPlaced}
use Rattle.local_names.proofs.word_places.put_words.Given as goal

abbrev pub invariant-loop-number : goal.invariant-loop-number
invariant-loop-number l = IsPlaced l.names (take l.number-index l.numbers) l.fn.all.items l.all.items
