use Rattle.std.specs.List.{range_with_len}
use Rattle.std.proofs.Common.{map, ◌≡◌}
use Rattle.phase_buffer.specs.Chains.{chain_length}
use Rattle.phase_buffer.specs.Unbuffered.{old_cells}
use Rattle.phase_buffer.proofs.unbuffered.Unbuffered.chain_lengths.Given as goal

abbrev pub invariant-loop-k : goal.invariant-loop-k
invariant-loop-k l = l.lengths.items ≡ map (chain_length (old_cells l.fn.self)) (range_with_len 0 l.k)
