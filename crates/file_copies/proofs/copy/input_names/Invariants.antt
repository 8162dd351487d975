use Rattle.std.proofs.Common.{◌≡◌, take}
use Rattle.numbered_file.specs.Numbered.{named}
use Rattle.file_copies.proofs.copy.input_names.Given as goal

abbrev pub invariant-loop-number : goal.invariant-loop-number
invariant-loop-number l = l.inputs.items ≡ named l.names (take l.number-index l.numbers)
