use Rattle.std.proofs.Common.{drop, map, ◌++◌, ◌≡◌}
use Rattle.clock_phase.specs.Plans.{cell_plan}
use Rattle.phase_buffer.specs.Chains.{with_chains}
use Rattle.phase_buffer.specs.Unbuffered.{old_cells}
use Rattle.phase_buffer.proofs.unbuffered.Unbuffered.with_chains.Given as goal

-- what is still to be pushed
abbrev pub invariant-loop-k : goal.invariant-loop-k
invariant-loop-k l =
    map cell_plan l.plans.items ++ with_chains (old_cells l.fn.self) l.k (map cell_plan (drop l.k l.fn.self.plans.now))
    ≡ with_chains (old_cells l.fn.self) 0 (map cell_plan l.fn.self.plans.now)
