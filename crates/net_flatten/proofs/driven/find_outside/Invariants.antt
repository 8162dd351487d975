use Rattle.net_flatten.specs.DriverSearches.{IsOutsideSet}
use Rattle.net_flatten.proofs.NumberedSearches.{HoldsOfNoneBefore}
use Rattle.net_flatten.proofs.driven.find_outside.Given as goal

abbrev pub invariant-loop-index : goal.invariant-loop-index
invariant-loop-index l = HoldsOfNoneBefore (IsOutsideSet l.set) l.numbers l.index
