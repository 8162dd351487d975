use Rattle.local_names.proofs.Searches.{IsNotBefore}
use Rattle.local_names.proofs.distinct.first_index.Given as goal

abbrev pub invariant-loop-index : goal.invariant-loop-index
invariant-loop-index l = IsNotBefore l.numbers l.number l.index
