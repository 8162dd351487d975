use Rattle.std.proofs.Common.{◌≡◌, ◌≤◌, ◌&&◌, false, filter, length}
use Rattle.std.specs.Prelude.{slice_index_or}
use Rattle.std.specs.List.{range_with_len}
use Rattle.synth_flow.proofs.both.count_both.Given as goal

abbrev pub invariant-nodes : goal.invariant-nodes
invariant-nodes l =
    (l.both ≡ length (filter (λ node. slice_index_or l.plus node false && slice_index_or l.minus node false) (range_with_len 0 l.node)))
    × (l.both ≤ l.node)
