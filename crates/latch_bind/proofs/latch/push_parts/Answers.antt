use Rattle.std.proofs.Common.{[], subst, sym, ◌++◌, ◌∙◌, ◌∷◌}
use Rattle.deck.specs.CircuitGrowth.{Grew}
use Rattle.deck.specs.NamedDevices.{with_devices}
use Rattle.deck.proofs.CircuitGrowth.{Grew-trans}
use Rattle.latch_bind.specs.HeldNames.{held_inverter, held_reset}
use Rattle.latch_bind.proofs.LatchParts.{Grew-with, two_parts}
use Rattle.latch_bind.proofs.latch.push_parts.Goals as goal

pub returns-in_err-number-clause-grew : goal.returns-in_err-number-clause-grew
returns-in_err-number-clause-grew c =
    Grew-trans c.args.circuit.now c.push_inverter.new.circuit c.push_inverter-2.new.circuit c.push_inverter.ensures.grew c.push_inverter-2.ensures.grew

pub returns-in_err-push_reset-clause-grew : goal.returns-in_err-push_reset-clause-grew
returns-in_err-push_reset-clause-grew c =
    let both = Grew-trans c.args.circuit.now c.push_inverter.new.circuit c.push_inverter-2.new.circuit c.push_inverter.ensures.grew c.push_inverter-2.ensures.grew in
    subst (Grew c.args.circuit.now) (sym c.in_err-push_reset.ensures.refused) both

pub returns-clause-grew : goal.returns-clause-grew
returns-clause-grew c =
    let both = Grew-trans c.args.circuit.now c.push_inverter.new.circuit c.push_inverter-2.new.circuit c.push_inverter.ensures.grew c.push_inverter-2.ensures.grew in
    Grew-with c.args.circuit.now c.push_inverter-2.new.circuit c.push_reset.new.circuit (held_reset c.args.ports.now c.at-out.result.name.now c.args.init ∷ []) both c.in_ok-push_reset.ensures.devices

pub returns-clause-devices : goal.returns-clause-devices
returns-clause-devices c =
    let old = c.args.circuit.now in
    let between = c.push_inverter.new.circuit in
    let ports = c.args.ports.now in
    let held = held_inverter ports.supplies in
    let master = c.args.master.now in
    let slave = c.args.slave.now in
    let input = c.named-data.ensures.name in
    let middle = c.at-data.ensures.name ∙ c.named.ensures.name in
    let out = c.at-out.ensures.name ∙ c.named-2.ensures.name in
    let clocks = c.master_clocks.ensures in
    let slave_clocks = c.slave_clocks.ensures in
    let one = c.in_ok-held.ensures.devices ∙ (λ i. with_devices old (held master (clocks.clock i) (clocks.opposite i) (input i))) in
    let two = c.in_ok-number.ensures.devices
    ∙ (λ i. with_devices between (held slave (slave_clocks.clock i) (slave_clocks.opposite i) (middle i))) in
    let three = c.in_ok-push_reset.ensures.devices ∙ (λ i. with_devices c.push_inverter-2.new.circuit (held_reset ports (out i) c.args.init ∷ [])) in
    let first = held master ports.master ports.master_opposite c.args.input.now in
    let second = held slave ports.slave ports.slave_opposite master.out in
    two_parts old c.push_inverter-2.new.circuit c.push_reset.new.circuit (first ++ second) (held_reset ports slave.out c.args.init ∷ [])
    (two_parts old between c.push_inverter-2.new.circuit first second one two) three
