use Rattle.std.proofs.Common.{◌≡◌, take}
use Rattle.deck.specs.NamedDevices.{with_devices}
use Rattle.synth_flow.specs.MadeDecks.{inverters}
use Rattle.synth_flow.proofs.inverters.push_inverters.Given as goal

abbrev pub invariant-sinks : goal.invariant-sinks
invariant-sinks l = l.circuit ≡ with_devices l.fn.circuit (inverters (take l.k l.gates) (take l.k l.outs))
