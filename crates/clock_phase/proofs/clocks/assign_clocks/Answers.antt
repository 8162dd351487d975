use Rattle.clock_phase.specs.Plans.{trees_of}
use Rattle.clock_phase.proofs.LevelsUpTo.{levels_from_one}
use Rattle.clock_phase.proofs.clocks.assign_clocks.Goals as goal

pub set_clocks-requires-clause-from_one : goal.set_clocks-requires-clause-from_one
set_clocks-requires-clause-from_one c = levels_from_one c.args.leaves (trees_of c.args.plans.now) c.set_levels.new.levels c.set_levels.ensures.levels
