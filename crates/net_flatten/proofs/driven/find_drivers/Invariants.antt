use Rattle.net_flatten.proofs.NumberedSearches.{AreOnceSoFar}
use Rattle.net_flatten.proofs.driven.find_drivers.Given as goal

abbrev pub invariant-loop-index : goal.invariant-loop-index
invariant-loop-index l = AreOnceSoFar l.signals l.inputs l.parts l.index l.driven
