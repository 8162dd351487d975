use Rattle.numbered_file.specs.OpenLists.{open_lists}
use Rattle.file_copies.proofs.RowPlaces.{IsFilling}
use Rattle.file_copies.proofs.part_words.push_rows.Given as goal

abbrev pub invariant-loop-index : goal.invariant-loop-index
invariant-loop-index l = IsFilling (open_lists l.fn.file) (open_lists l.file) l.width l.index l.rows l.letters l.left
