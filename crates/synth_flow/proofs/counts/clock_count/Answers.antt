use Rattle.std.proofs.Common.{arith}
use Rattle.clock_phase.proofs.Greatest.{at_most_greatest}
use Rattle.synth_flow.proofs.counts.clock_count.Goals as goal

pub clock_of_level-requires-clause-within : goal.clock_of_level-requires-clause-within
clock_of_level-requires-clause-within c = omega (arith, at_most_greatest c.args.levels.now c.levels.level-index, c.requires.top)
