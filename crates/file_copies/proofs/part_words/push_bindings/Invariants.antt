use Rattle.std.proofs.Common.{◌≡◌, take}
use Rattle.numbered_file.specs.OpenLists.{open_lists, with_words}
use Rattle.file_copies.specs.Pushing.{pair_words}
use Rattle.file_copies.proofs.part_words.push_bindings.Given as goal

abbrev pub invariant-loop-index : goal.invariant-loop-index
invariant-loop-index l = open_lists l.file ≡ with_words (open_lists l.fn.file) (pair_words (take l.index l.bindings))
