use Rattle.std.proofs.Common.{◌≡◌, ◌<◌, length, sym, subst, arith, rules}
use Rattle.deck.specs.CircuitData.{CircuitData}
use Rattle.deck.specs.Limits.{most_devices}
use Rattle.deck.proofs.DeviceNumbers.{IsCircuit-few, IsCircuit-pushed}
use Rattle.deck.specs.CircuitGrowth.{Grew}
use Rattle.deck.specs.Nets.{with_nets}
use Rattle.deck.proofs.CircuitGrowth.{Grew-kept, Grew-made}
use Rattle.deck.specs.NetsAt.{HasEnds}
use Rattle.deck.proofs.NetsAt.{HasEnds-added}
use Rattle.deck.proofs.push.push_held.Goals as goal

pub push_device-requires-clause-few : goal.push_device-requires-clause-few
push_device-requires-clause-few c =
    omega (arith, IsCircuit-few c.circuit.inside.ports c.circuit.inside.nets.keys c.circuit.inside.devices.items c.circuit.invariant)

pub invariant_of-circuit : goal.invariant_of-circuit
invariant_of-circuit c =
    let P : CircuitData → Type 0 = λ v. length v.devices < most_devices in
    rw (c.in-Ok.ensures.nets, c.in-Ok.ensures.devices)
    (IsCircuit-pushed c.circuit.inside.ports c.circuit.inside.nets.keys c.circuit.inside.devices.items _ _ _ _ c.circuit.invariant (subst P (sym c.circuit.view_is) c.requires.room))

pub returns-in-Ok-clause-ends : goal.returns-in-Ok-clause-ends
returns-in-Ok-clause-ends c =
    let nets = c.circuit.inside.nets.keys in
    let d = c.args.drain.name.now in
    let g = c.args.gate.name.now in
    let s = c.args.source.name.now in
    subst (λ l. HasEnds l d g s c.in-Ok.device) (sym c.in-Ok.ensures.nets)
    (subst (HasEnds (with_nets nets d g s) d g s) (sym c.in-Ok.ensures.device) (HasEnds-added nets c.args.kind d g s))

pub returns-in-Ok-clause-grew : goal.returns-in-Ok-clause-grew
returns-in-Ok-clause-grew c =
    let inside = c.circuit.inside in
    let nets = c.push_device.new.nets.keys in
    let devices = c.push_device.new.devices.items in
    let new : CircuitData = record { name = inside.name; phases = inside.phases.items; ports = inside.ports; nets = nets; devices = devices } in
    subst (λ old. Grew old new) c.circuit.view_is
    (Grew-made _ nets devices c.args.kind c.args.drain.name.now c.args.gate.name.now c.args.source.name.now c.in-Ok.ensures.nets c.in-Ok.ensures.devices)

pub returns-in-Err-clause-grew : goal.returns-in-Err-clause-grew
returns-in-Err-clause-grew c =
    let inside = c.circuit.inside in
    let nets = c.truncate.new.self.keys in
    let devices = c.push_device.new.devices.items in
    let new : CircuitData = record { name = inside.name; phases = inside.phases.items; ports = inside.ports; nets = nets; devices = devices } in
    let kept : nets ≡ inside.nets.keys = search rules in
    subst (λ old. Grew old new) c.circuit.view_is (Grew-kept _ nets devices kept c.in-Err.ensures.kept)
