use Rattle.std.proofs.Common.{◌≡◌, subst}
use Rattle.std.specs.Prelude.{OnOk}
use Rattle.deck.specs.NamedDevices.{with_devices}
use Rattle.latch_bind.proofs.LatchParts.{held_latch}
use Rattle.latch_bind.proofs.latch.push_held_latch.Goals as goal

pub returns-clause-devices : goal.returns-clause-devices
returns-clause-devices c =
    subst (λ cards. OnOk c.push_named_latch.result (c.push_named_latch.new.circuit ≡ with_devices c.args.circuit.now cards))
    (held_latch c.args.ports.now c.in_ok-master.master c.in_ok-slave.slave c.in_ok-input.input c.args.j c.args.init
    c.requires.ports c.in_ok-master.ensures c.in_ok-slave.ensures c.in_ok-input.ensures)
    c.push_named_latch.ensures.devices

pub returns-clause-refused : goal.returns-clause-refused
returns-clause-refused c = c.push_named_latch.ensures.refused
