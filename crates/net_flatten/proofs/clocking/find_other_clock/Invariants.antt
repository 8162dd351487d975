use Rattle.std.proofs.Common.{take}
use Rattle.net_flatten.specs.ClockSearches.{IsClockOf}
use Rattle.net_flatten.proofs.clocking.find_other_clock.Given as goal

abbrev pub invariant-loop-index : goal.invariant-loop-index
invariant-loop-index l = IsClockOf l.file (take l.index l.parts) l.clock
