use Rattle.net_flatten.specs.ClockSearches.{IsAtNumber}
use Rattle.net_flatten.proofs.NumberedSearches.{HoldsOfNoneBefore}
use Rattle.net_flatten.proofs.clocking.find_number.Given as goal

abbrev pub invariant-loop-index : goal.invariant-loop-index
invariant-loop-index l = HoldsOfNoneBefore (IsAtNumber l.number) l.parts l.index
