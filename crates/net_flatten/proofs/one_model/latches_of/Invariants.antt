use Rattle.std.proofs.Common.{◌≡◌, ℕ, map, take}
use Rattle.std.specs.List.{enumerate_from}
use Rattle.network.specs.declared.network.NetLatch.{NetLatch}
use Rattle.net_flatten.specs.OneModel.{latch_at}
use Rattle.net_flatten.proofs.one_model.latches_of.Given as goal

abbrev pub invariant-loop-k : goal.invariant-loop-k
invariant-loop-k l = l.latches.items ≡ take l.k (map (λ (p : ℕ × NetLatch). latch_at l.fn.network p.0 p.1) (enumerate_from 0 l.fn.network.latches))
