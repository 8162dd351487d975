use Rattle.std.proofs.Common.{◌≡◌, ◌++◌, take}
use Rattle.file_copies.specs.FileLetters.{rows_letters}
use Rattle.file_copies.proofs.letters.append_rows.Given as goal

abbrev pub invariant-loop-row : goal.invariant-loop-row
invariant-loop-row l = l.bytes.items ≡ l.fn.bytes.items ++ rows_letters (take l.row-index l.rows)
