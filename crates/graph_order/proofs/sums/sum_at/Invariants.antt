use Rattle.std.proofs.Common.{◌≡◌, ◌+◌, min, take}
use Rattle.std.specs.List.{sum_by}
use Rattle.std.specs.Prelude.{slice_index_or}
use Rattle.graph_order.specs.WalkSums.{largest_u64}
use Rattle.graph_order.proofs.sums.sum_at.Given as goal

abbrev pub invariant-loop-k : goal.invariant-loop-k
invariant-loop-k l = l.total ≡ min (slice_index_or l.weights l.fn.node 0 + sum_by (λ next. slice_index_or l.sums next 0) (take l.k-index l.next)) largest_u64
