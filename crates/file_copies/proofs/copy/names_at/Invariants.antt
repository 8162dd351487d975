use Rattle.std.proofs.Common.{◌≡◌, take}
use Rattle.numbered_file.specs.Numbered.{named}
use Rattle.file_copies.proofs.copy.names_at.Given as goal

abbrev pub invariant-loop-number : goal.invariant-loop-number
invariant-loop-number l = l.all.items ≡ named l.names (take l.number-index l.numbers)
