use Rattle.std.proofs.Common.{length}
use Rattle.numbered_file.specs.OpenLists.{open_lists}
use Rattle.file_copies.proofs.ModelsToCome.{IsAdding}
use Rattle.file_copies.proofs.numbering.push_models.Given as goal

abbrev pub invariant-models : goal.invariant-models
invariant-models l = IsAdding (open_lists l.file) l.fn.models l.rest l.fn.letters l.left

abbrev pub decreases-models : goal.decreases-models
decreases-models l = length l.rest
