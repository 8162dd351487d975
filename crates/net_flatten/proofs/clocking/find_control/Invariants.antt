use Rattle.net_flatten.specs.ClockSearches.{HasControl}
use Rattle.net_flatten.proofs.NumberedSearches.{HoldsOfNoneBefore}
use Rattle.net_flatten.proofs.clocking.find_control.Given as goal

abbrev pub invariant-loop-index : goal.invariant-loop-index
invariant-loop-index l = HoldsOfNoneBefore HasControl l.parts l.index
