use Rattle.std.proofs.Common.{◌+◌, length}
use Rattle.numbered_file.specs.OpenLists.{open_lists}
use Rattle.file_copies.specs.Pushing.{IsReached, state}
use Rattle.file_copies.proofs.model_parts.push_parts.Given as goal

abbrev pub invariant-parts : goal.invariant-parts
invariant-parts l = IsReached
    (state (open_lists l.fn.file) l.fn.parts.tables.now l.fn.parts.latches.now l.fn.parts.instances.now l.fn.letters)
    (state (open_lists l.file) l.rest.tables.now l.rest.latches.now l.rest.instances.now l.left)

abbrev pub decreases-parts : goal.decreases-parts
decreases-parts l = length l.rest.tables.now + (length l.rest.latches.now + length l.rest.instances.now)
