use Rattle.std.proofs.Common.{◌≡◌, false, filter}
use Rattle.std.specs.Prelude.{slice_index_or}
use Rattle.std.specs.List.{range_with_len}
use Rattle.synth_flow.proofs.complements.marked_leaves.Given as goal

abbrev pub invariant-leaves : goal.invariant-leaves
invariant-leaves l = l.named.items ≡ filter (λ leaf. slice_index_or l.marks leaf false) (range_with_len 0 l.leaf)
