use Rattle.std.proofs.Common.{◌≡◌, map, take}
use Rattle.network.specs.declared.network.NetLatch.{NetLatch}
use Rattle.synth_flow.proofs.texts.start_values.Given as goal

abbrev pub invariant-latches : goal.invariant-latches
invariant-latches l = l.starts.items ≡ map (λ (x : NetLatch). x.init) (take l.latch-index l.latches)
