use Rattle.clock_phase.specs.Plans.{trees_of}
use Rattle.clock_phase.proofs.LevelsUpTo.{AreLevelsUpTo}
use Rattle.clock_phase.proofs.clocks.set_levels.Given as goal

abbrev pub invariant-loop-k : goal.invariant-loop-k
invariant-loop-k l = AreLevelsUpTo l.leaves (trees_of l.plans) l.levels l.k
