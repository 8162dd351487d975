use Rattle.std.proofs.Common.{◌≡◌, ◌∙◌, ap, sym, subst, map}
use Rattle.std.proofs.lemmas.List.{take_all}
use Rattle.deck.specs.CircuitData.{CircuitData}
use Rattle.subckt_expand.specs.Definitions.{IsDefinition}
use Rattle.spice_read.specs.FlatSubckts.{own_part}
use Rattle.spice_read.proofs.FlatSubckts.{flat_whole}
use Rattle.spice_read.proofs.subckt.flat_definition.Goals as goal

pub invariant_of-result : goal.invariant_of-result
invariant_of-result c =
    let inside = c.circuit.inside in
    let circuit : CircuitData = record { name = inside.name; phases = inside.phases.items; ports = inside.ports; nets = inside.nets.keys; devices = inside.devices.items } in
    let whole = flat_whole circuit c.circuit.invariant in
    let all = take_all c.loop-device.device-index c.as_slice-device-items.result.now c.loop-device-test.false in
    let parts : c.loop-device.parts.items ≡ map own_part inside.devices.items = c.loop-device.invariant ∙ ap (map own_part) (all ∙ c.as_slice-device-items.ensures.value) in
    subst (λ l. IsDefinition (record { name = inside.name; ports = inside.ports; nets = inside.nets.keys; calls = c.new.result.items; parts = l; devices = c.len.result; depth = 0 })) (sym parts)
    (subst (λ l. IsDefinition (record { name = inside.name; ports = inside.ports; nets = inside.nets.keys; calls = l; parts = map own_part inside.devices.items; devices = c.len.result; depth = 0 })) (sym c.new.ensures.items)
    (record { few_ports = whole.few_ports; parts_are = whole.parts_are; calls_are = whole.calls_are }))
