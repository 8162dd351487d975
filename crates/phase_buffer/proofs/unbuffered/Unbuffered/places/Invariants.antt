use Rattle.std.specs.List.{range_with_len}
use Rattle.std.proofs.Common.{map, ◌≡◌}
use Rattle.phase_buffer.specs.Chains.{place}
use Rattle.phase_buffer.specs.Unbuffered.{old_cells}
use Rattle.phase_buffer.proofs.unbuffered.Unbuffered.places.Given as goal

abbrev pub invariant-loop-k : goal.invariant-loop-k
invariant-loop-k l = record {
  next : l.next ≡ place (old_cells l.fn.self) l.k;
  places : l.places.items ≡ map (place (old_cells l.fn.self)) (range_with_len 0 l.k);
}
