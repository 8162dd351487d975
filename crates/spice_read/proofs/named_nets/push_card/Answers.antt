use Rattle.std.proofs.Common.{◌<◌, length, sym, subst, arith}
use Rattle.deck.specs.CircuitData.{CircuitData}
use Rattle.deck.specs.Limits.{most_devices}
use Rattle.deck.proofs.DeviceNumbers.{IsCircuit-few, IsCircuit-pushed}
use Rattle.spice_read.proofs.named_nets.push_card.Goals as goal

pub push_device-requires-clause-few : goal.push_device-requires-clause-few
push_device-requires-clause-few c =
    omega (arith, IsCircuit-few c.circuit.inside.ports c.circuit.inside.nets.keys c.circuit.inside.devices.items c.circuit.invariant)

pub invariant_of-circuit : goal.invariant_of-circuit
invariant_of-circuit c =
    let P : CircuitData → Type 0 = λ v. length v.devices < most_devices in
    rw (c.in-Ok.ensures.nets, c.in-Ok.ensures.devices)
    (IsCircuit-pushed c.circuit.inside.ports c.circuit.inside.nets.keys c.circuit.inside.devices.items _ _ _ _ c.circuit.invariant (subst P (sym c.circuit.view_is) c.requires.room))
