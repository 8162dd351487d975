use Rattle.std.proofs.Common.{ap, arith, ◌∙◌}
use Rattle.deck.specs.Cuts.{cut_to}
use Rattle.deck.specs.NamedDevices.{with_devices}
use Rattle.deck.proofs.Cuts.{cut_to-grew}
use Rattle.domino_cell.specs.Cell.{inverter}
use Rattle.domino_cell.proofs.CellCircuits.{Grew-longer}
use Rattle.latch_bind.proofs.SinkPaths.{IsDrivenByTree-sink}
use Rattle.latch_bind.proofs.sink.push_sink.Goals as goal

pub push_inverter-requires-clause-gate : goal.push_inverter-requires-clause-gate
push_inverter-requires-clause-gate c = c.named-input.ensures.stands c.args.circuit.now.nets

pub push_inverter-requires-clause-out : goal.push_inverter-requires-clause-out
push_inverter-requires-clause-out c = c.named-output.ensures.stands c.args.circuit.now.nets

pub cut-requires : goal.cut-requires
cut-requires c = omega (arith, c.device_count-before.ensures.count, Grew-longer c.push_inverter.ensures.grew)

pub returns-in-Ok-clause-devices : goal.returns-in-Ok-clause-devices
returns-in-Ok-clause-devices c =
    let supplies = c.in_ok-supplies.ensures in
    let gate = c.named-input.ensures.name in
    let out = c.named-output.ensures.name in
    let vdd = c.checked-vdd.ensures.name ∙ c.vdd_net.ensures ∙ supplies.vdd in
    let vss = c.checked-vss.ensures.name ∙ c.vss_net.ensures ∙ supplies.vss in
    c.in-Ok.ensures.devices ∙ (λ i. with_devices c.args.circuit.now (inverter (vdd i) (vss i) (gate i) (out i)))

pub returns-in-Ok-clause-driven : goal.returns-in-Ok-clause-driven
returns-in-Ok-clause-driven c =
    IsDrivenByTree-sink c.args.circuit.now c.push_inverter.new.circuit c.args.gate.now c.args.out.now c.device_count-before.ensures.whole
    c.requires.nets (returns-in-Ok-clause-devices c)

pub returns-clause-refused : goal.returns-clause-refused
returns-clause-refused c =
    c.cut.ensures
    ∙ ap (cut_to c.push_inverter.new.circuit) c.device_count-before.ensures.count
    ∙ cut_to-grew c.args.circuit.now c.push_inverter.new.circuit c.push_inverter.ensures.grew c.device_count-before.ensures.whole.all_used
