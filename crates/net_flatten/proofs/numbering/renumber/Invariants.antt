use Rattle.std.proofs.Common.{◌≡◌, replicate}
use Rattle.net_flatten.proofs.Renumbering.{IsRenumberingSoFar}
use Rattle.net_flatten.proofs.numbering.renumber.Given as goal

abbrev pub invariant-loop : goal.invariant-loop
invariant-loop l = l.places.items ≡ replicate l.counter 0

abbrev pub invariant-loop-index : goal.invariant-loop-index
invariant-loop-index l = IsRenumberingSoFar l.signals l.numbers l.index l.places.items
