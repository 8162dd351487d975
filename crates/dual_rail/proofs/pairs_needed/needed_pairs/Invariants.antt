use Rattle.std.proofs.Common.{◌≡◌, ◌≤◌, ◌<◌, ◌*◌, ℕ, Bool, true, length, take, count_by}
use Rattle.std.specs.Prelude.{Some, slice_get}
use Rattle.gate_decompose.specs.GatesOrder.{is_operator}
use Rattle.gate_decompose.specs.NeededPass.{is_marked_gate, pairs_from}
use Rattle.dual_rail.specs.Places.{place_at}
use Rattle.dual_rail.specs.WantedNodes.{holds}
use Rattle.dual_rail.proofs.pairs_needed.needed_pairs.Given as goal

abbrev pub invariant-loop-index : goal.invariant-loop-index
invariant-loop-index l = record {
  pairs : l.pairs.items ≡ pairs_from (is_marked_gate l.nodes (holds l.wanted)) 0 l.index;
  places : (n : ℕ) (s : Bool) → n < l.index → is_marked_gate l.nodes (holds l.wanted) n s ≡ true → slice_get l.pairs.items (place_at l.places.items n s) ≡ Some (n, s);
  count : length l.places.items ≡ l.index;
  few : length l.pairs.items ≤ 2 * count_by is_operator (take l.index l.nodes);
}
