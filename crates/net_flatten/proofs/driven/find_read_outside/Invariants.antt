use Rattle.net_flatten.specs.DriverSearches.{IsOutsideSet}
use Rattle.net_flatten.proofs.NumberedSearches.{ReadsHoldOfNoneBefore}
use Rattle.net_flatten.proofs.driven.find_read_outside.Given as goal

abbrev pub invariant-loop-index : goal.invariant-loop-index
invariant-loop-index l = ReadsHoldOfNoneBefore (IsOutsideSet l.set) l.parts l.index
