use Rattle.std.proofs.Common.{List}
use Rattle.link_reduce.specs.Reductions.{IsSound, remaining}
use Rattle.link_reduce.specs.declared.part.Ends.{Ends}
use Rattle.link_reduce.proofs.reduction.Reduction.run.Given as goal

abbrev pub invariant-nets : goal.invariant-nets
invariant-nets l = (ends : List Ends) → IsSound ends l.top l.bottom l.fn.self → IsSound ends l.top l.bottom l.self

abbrev pub decreases-nets : goal.decreases-nets
decreases-nets l = remaining l.self
