use Rattle.std.proofs.Common.{◌≡◌, ◌++◌, map, take}
use Rattle.blif_ast.specs.Printed.{letter_byte}
use Rattle.file_copies.proofs.letters.append_letters.Given as goal

abbrev pub invariant-loop-letter : goal.invariant-loop-letter
invariant-loop-letter l = l.bytes.items ≡ l.fn.bytes.items ++ map letter_byte (take l.letter-index l.letters)
