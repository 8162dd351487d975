use Rattle.std.proofs.Common.{◌≡◌, take}
use Rattle.numbered_file.specs.Slots.{letters_mark}
use Rattle.numbered_file.proofs.slots.letters_mark.Given as goal

abbrev pub invariant-loop-letter : goal.invariant-loop-letter
invariant-loop-letter l = l.mark ≡ letters_mark (take l.letter-index l.name)
