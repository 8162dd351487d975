-- The pairs whose uses a trial looked at.
use Rattle.std.specs.Prelude.{List, ◌++◌}
use Rattle.phase_assign.specs.declared.looked.Looked.{Looked}
use Rattle.dual_rail.specs.declared.signed.SignedNode.{SignedNode}

abbrev pub looked_pairs : Looked → List SignedNode
looked_pairs looked = looked.gone.items ++ looked.come.items
