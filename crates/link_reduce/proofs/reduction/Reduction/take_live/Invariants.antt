use Rattle.std.proofs.Common.{length}
use Rattle.link_reduce.specs.Parts.{listed}
use Rattle.link_reduce.proofs.Popped.{IsTaking}
use Rattle.link_reduce.proofs.reduction.Reduction.take_live.Given as goal

abbrev pub invariant-listed : goal.invariant-listed
invariant-listed l = IsTaking l.net l.fn.self l.self

abbrev pub decreases-listed : goal.decreases-listed
decreases-listed l = length (listed l.self.at l.net)
