use Rattle.net_flatten.specs.Loops.{IsOnLoop}
use Rattle.net_flatten.proofs.NumberedSearches.{HoldsOfNoneBefore}
use Rattle.net_flatten.proofs.cycle_check.find_loop.Given as goal

abbrev pub invariant-loop-index : goal.invariant-loop-index
invariant-loop-index l = HoldsOfNoneBefore (IsOnLoop l.nodes) l.parts l.index
