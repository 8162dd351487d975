use Rattle.std.proofs.Common.{◌≡◌, map}
use Rattle.std.specs.List.{range_with_len}
use Rattle.gate_decompose.specs.declared.gates.Ref.TheVariants.{Leaf}
use Rattle.gate_decompose.proofs.tables.leaf_refs.Given as goal

abbrev pub invariant-loop-leaf : goal.invariant-loop-leaf
invariant-loop-leaf l = l.refs.items ≡ map Leaf (range_with_len 0 l.leaf)
