use Rattle.std.proofs.Common.{map, take, ◌≡◌}
use Rattle.phase_buffer.specs.Chains.{end_at}
use Rattle.phase_buffer.specs.Unbuffered.{old_cells}
use Rattle.phase_buffer.proofs.unbuffered.Unbuffered.chain_ends.Given as goal

abbrev pub invariant-loop-sink : goal.invariant-loop-sink
invariant-loop-sink l = l.ends.items ≡ map (end_at (old_cells l.fn.self)) (take l.sink-index l.fn.self.sinks.now)
