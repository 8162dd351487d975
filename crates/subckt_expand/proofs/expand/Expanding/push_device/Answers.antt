use Rattle.std.proofs.Common.{◌≡◌, ◌∙◌, ◌++◌, ◌∷◌, [], List, ap, subst, arith}
use Rattle.std.proofs.lemmas.Result.{on_ok_weaker}
use Rattle.deck.specs.declared.device.Device.{Device}
use Rattle.deck.specs.NamedDevices.{map_device, with_devices}
use Rattle.subckt_expand.specs.Definitions.{named_local}
use Rattle.subckt_expand.specs.Units.{definitions}
use Rattle.subckt_expand.specs.Frames.{definition_of, made, name_at}
use Rattle.subckt_expand.proofs.DevicesMade.{IsNumbering, device_made, numbers_small}
use Rattle.subckt_expand.proofs.expand.Expanding.push_device.Goals as goal

pub overflow_cast-added : goal.overflow_cast-added
overflow_cast-added c =
    let e = c.args.self.now in
    let device = c.args.device.now in
    let level = c.depth-level.result in
    let numbering : IsNumbering e c.number.new.self c.number-2.new.self c.number-3.new.self level device c.in_ok-drain.drain c.in_ok-gate.gate c.in_ok-source.source = record {
      place_1 = c.in_ok-drain.ensures.place;
      place_2 = c.in_ok-gate.ensures.place;
      nets_1 = c.in_ok-drain.ensures.nets;
      nets_2 = c.in_ok-gate.ensures.nets;
      nets_3 = c.in_ok-source.ensures.nets;
      drain_is = c.in_ok-drain.ensures.number;
      gate_is = c.in_ok-gate.ensures.number;
      source_is = c.in_ok-source.ensures.number;
    } in
    let small = numbers_small _ _ _ _ _ _ _ _ _ numbering c.requires.room in
    omega (arith, small.0)

pub overflow_cast-added-2 : goal.overflow_cast-added-2
overflow_cast-added-2 c =
    let e = c.args.self.now in
    let device = c.args.device.now in
    let level = c.depth-level.result in
    let numbering : IsNumbering e c.number.new.self c.number-2.new.self c.number-3.new.self level device c.in_ok-drain.drain c.in_ok-gate.gate c.in_ok-source.source = record {
      place_1 = c.in_ok-drain.ensures.place;
      place_2 = c.in_ok-gate.ensures.place;
      nets_1 = c.in_ok-drain.ensures.nets;
      nets_2 = c.in_ok-gate.ensures.nets;
      nets_3 = c.in_ok-source.ensures.nets;
      drain_is = c.in_ok-drain.ensures.number;
      gate_is = c.in_ok-gate.ensures.number;
      source_is = c.in_ok-source.ensures.number;
    } in
    let small = numbers_small _ _ _ _ _ _ _ _ _ numbering c.requires.room in
    omega (arith, small.1)

pub overflow_cast-added-3 : goal.overflow_cast-added-3
overflow_cast-added-3 c =
    let e = c.args.self.now in
    let device = c.args.device.now in
    let level = c.depth-level.result in
    let numbering : IsNumbering e c.number.new.self c.number-2.new.self c.number-3.new.self level device c.in_ok-drain.drain c.in_ok-gate.gate c.in_ok-source.source = record {
      place_1 = c.in_ok-drain.ensures.place;
      place_2 = c.in_ok-gate.ensures.place;
      nets_1 = c.in_ok-drain.ensures.nets;
      nets_2 = c.in_ok-gate.ensures.nets;
      nets_3 = c.in_ok-source.ensures.nets;
      drain_is = c.in_ok-drain.ensures.number;
      gate_is = c.in_ok-gate.ensures.number;
      source_is = c.in_ok-source.ensures.number;
    } in
    let small = numbers_small _ _ _ _ _ _ _ _ _ numbering c.requires.room in
    omega (arith, small.2)

pub returns-clause-made : goal.returns-clause-made
returns-clause-made c =
    let e = c.args.self.now in
    let device = c.args.device.now in
    let level = c.depth-level.result in
    let numbering : IsNumbering e c.number.new.self c.number-2.new.self c.number-3.new.self level device c.in_ok-drain.drain c.in_ok-gate.gate c.in_ok-source.source = record {
      place_1 = c.in_ok-drain.ensures.place;
      place_2 = c.in_ok-gate.ensures.place;
      nets_1 = c.in_ok-drain.ensures.nets;
      nets_2 = c.in_ok-gate.ensures.nets;
      nets_3 = c.in_ok-source.ensures.nets;
      drain_is = c.in_ok-drain.ensures.number;
      gate_is = c.in_ok-gate.ensures.number;
      source_is = c.in_ok-source.ensures.number;
    } in
    let added : Device = record { kind = device.kind; drain = c.in_ok-drain.drain; gate = c.in_ok-gate.gate; source = c.in_ok-source.source } in
    let before = c.in_ok-source.ensures.devices ∙ c.in_ok-gate.ensures.devices ∙ c.in_ok-drain.ensures.devices in
    on_ok_weaker c.add_device.result
    (λ devices. subst (λ l. made c.add_device.new.self ≡ with_devices (made e) (map_device (name_at (definitions e.units) e.main e.calls l) (named_local (definition_of (definitions e.units) e.main e.calls l).nets device) ∷ []))
    c.depth-level.ensures (device_made _ _ _ _ _ _ _ _ _ numbering c.add_device.new.self c.add_device.ensures.nets (devices ∙ ap (λ (l : List Device). l ++ added ∷ []) before)))
    c.add_device.ensures.devices
