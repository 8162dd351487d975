use Rattle.std.proofs.Common.{◌≡◌, map, take}
use Rattle.blif_ast.specs.Models.{row_letter}
use Rattle.file_copies.proofs.copy.letters_of.Given as goal

abbrev pub invariant-loop-byte : goal.invariant-loop-byte
invariant-loop-byte l = l.letters.items ≡ map row_letter (take l.byte-index l.bytes)
