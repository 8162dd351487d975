use Rattle.std.proofs.Common.{◌≡◌, take}
use Rattle.clock_phase.specs.Levels.{greatest}
use Rattle.synth_flow.proofs.counts.greatest_level.Given as goal

abbrev pub invariant-levels : goal.invariant-levels
invariant-levels l = l.most ≡ greatest (take l.level-index l.levels)
