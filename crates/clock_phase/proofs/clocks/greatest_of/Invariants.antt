use Rattle.std.proofs.Common.{◌≡◌, take}
use Rattle.clock_phase.specs.Levels.{greatest}
use Rattle.clock_phase.proofs.clocks.greatest_of.Given as goal

abbrev pub invariant-loop-number : goal.invariant-loop-number
invariant-loop-number l = l.top ≡ greatest (take l.number-index l.numbers)
