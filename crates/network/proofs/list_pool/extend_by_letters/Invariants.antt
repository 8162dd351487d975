use Rattle.std.proofs.Common.{◌≡◌, ◌++◌, map, take}
use Rattle.blif_ast.specs.Models.{row_letter}
use Rattle.network.proofs.list_pool.extend_by_letters.Given as goal

abbrev pub invariant-loop-byte : goal.invariant-loop-byte
invariant-loop-byte l = l.items.items ≡ l.fn.items.items ++ map row_letter (take l.byte-index l.bytes)
