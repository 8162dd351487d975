use Rattle.std.proofs.Common.{◌≡◌, ◌++◌, length}
use Rattle.numbered_file.specs.Numbered.{bindings_by, named}
use Rattle.file_copies.proofs.copy.bindings_by.Given as goal

abbrev pub invariant-bindings : goal.invariant-bindings
invariant-bindings l = l.bindings.items ++ bindings_by (named l.names l.rest) ≡ bindings_by (named l.names l.words)

abbrev pub decreases-bindings : goal.decreases-bindings
decreases-bindings l = length l.rest
