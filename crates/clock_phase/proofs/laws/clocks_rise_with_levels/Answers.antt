use Rattle.clock_phase.proofs.Levels.{clock_rises, clock_within, reads_lower}
use Rattle.clock_phase.proofs.laws.clocks_rise_with_levels.Goals as goal

pub returns-clause-range : goal.returns-clause-range
returns-clause-range c = clock_within

pub returns-clause-rise : goal.returns-clause-rise
returns-clause-rise c = clock_rises

pub returns-clause-lower : goal.returns-clause-lower
returns-clause-lower c = reads_lower
