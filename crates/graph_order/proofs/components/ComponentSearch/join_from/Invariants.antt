use Rattle.std.proofs.Common.{◌≡◌, ℕ, ◌<◌, ◌≤◌, Some, length}
use Rattle.std.specs.Prelude.{slice_get}
use Rattle.graph_order.proofs.components.ComponentSearch.join_from.Given as goal

abbrev pub invariant-starts : goal.invariant-starts
invariant-starts l = (l.kept ≤ length l.fn.self.starts) × ((i s : ℕ) → l.kept ≤ i → slice_get l.fn.self.starts i ≡ Some s → l.place < s)

abbrev pub decreases-starts : goal.decreases-starts
decreases-starts l = l.kept
