use Rattle.std.proofs.Common.{map, ◌++◌, ◌+◌, ◌-◌, ◌≡◌}
use Rattle.clock_phase.specs.Plans.{cell_plan}
use Rattle.phase_buffer.specs.Chains.{chain}
use Rattle.phase_buffer.specs.Unbuffered.{old_cells}
use Rattle.phase_buffer.proofs.unbuffered.Unbuffered.push_chain.Given as goal

-- what is still to be pushed
abbrev pub invariant-loop-number : goal.invariant-loop-number
invariant-loop-number l =
    map cell_plan l.plans.items ++ chain (old_cells l.fn.self) (l.at + l.number) (l.clock + l.number) (l.count - l.number)
    ≡ map cell_plan l.fn.plans.items ++ chain (old_cells l.fn.self) l.at l.clock l.count
