use Rattle.std.proofs.Common.{length, take, ◌≡◌}
use Rattle.link_reduce.specs.Reductions.{IsBegun}
use Rattle.link_reduce.proofs.reduction.Reduction.begin.Given as goal

abbrev pub invariant-loop-link : goal.invariant-loop-link
invariant-loop-link l = record {
  begun : IsBegun (take l.link-index l.ends) l.self;
  room : length l.self.at ≡ length l.fn.self.at;
}
