use Rattle.link_reduce.proofs.OnlyLive.{IsOnlyBelow}
use Rattle.link_reduce.proofs.reduction.Reduction.only_live.Given as goal

abbrev pub invariant-loop-number : goal.invariant-loop-number
invariant-loop-number l = IsOnlyBelow l.self.live l.number l.only
