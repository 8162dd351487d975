use Rattle.std.proofs.Common.{◌≤◌, ◌<◌, ℕ}
use Rattle.deck.specs.PortFronts.{BeginsLeading, LeavesLeading}
use Rattle.deck.proofs.port_order.count_clocks.Given as goal

abbrev pub invariant-loop-clocks : goal.invariant-loop-clocks
invariant-loop-clocks l = record {
  begins : BeginsLeading l.ports l.farthest;
  leaves : (k : ℕ) → 1 ≤ k → k < l.clocks → LeavesLeading l.ports l.farthest k;
}
