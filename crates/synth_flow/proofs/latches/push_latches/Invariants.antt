use Rattle.std.proofs.Common.{◌≡◌, map, take}
use Rattle.deck.specs.NamedDevices.{with_devices}
use Rattle.network.specs.declared.network.NetLatch.{NetLatch}
use Rattle.synth_flow.specs.MadeDecks.{latches_from}
use Rattle.synth_flow.proofs.latches.push_latches.Given as goal

abbrev pub invariant-latches : goal.invariant-latches
invariant-latches l = l.circuit ≡ with_devices l.fn.circuit (latches_from 0 (take l.j (map (λ (x : NetLatch). x.init) l.latches)))
