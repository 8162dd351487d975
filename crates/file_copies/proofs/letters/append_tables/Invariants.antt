use Rattle.std.proofs.Common.{◌≡◌, ◌++◌, take}
use Rattle.file_copies.specs.FileLetters.{tables_letters}
use Rattle.file_copies.proofs.letters.append_tables.Given as goal

abbrev pub invariant-loop-table : goal.invariant-loop-table
invariant-loop-table l = l.bytes.items ≡ l.fn.bytes.items ++ tables_letters (take l.table-index l.tables)
