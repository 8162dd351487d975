use Rattle.std.proofs.Common.{◌≡◌, ◌++◌, map, take}
use Rattle.blif_ast.specs.Printed.{letter_byte}
use Rattle.net_flatten.proofs.printing.put_letters.Given as goal

abbrev pub invariant-loop-letter : goal.invariant-loop-letter
invariant-loop-letter l = l.text.items ≡ l.fn.text.items ++ map letter_byte (take l.letter-index l.letters)
