use Rattle.std.proofs.Common.{◌≡◌, ℕ, ◌≤◌, ◌<◌, ◌-◌, length, Some, true}
use Rattle.std.specs.Prelude.{slice_get}
use Rattle.net_flatten.proofs.network_names.first_free.Given as goal

abbrev pub invariant-loop-width : goal.invariant-loop-width
invariant-loop-width l = record { some : 1 ≤ l.width; first : (other : ℕ) → 1 ≤ other → other < l.width → slice_get l.marks other ≡ Some true }

abbrev pub decreases-loop-width : goal.decreases-loop-width
decreases-loop-width l = length l.marks - l.width
