use Rattle.std.proofs.Common.{◌≡◌, ◌+◌, take, arith}
use Rattle.dom_base.specs.declared.kind.Kind.TheVariants.{N as nch}
use Rattle.deck.specs.declared.device.Device.{Device}
use Rattle.deck.specs.Nets.{ends, numbers_used}
use Rattle.deck.proofs.Cuts.{used-more}
use Rattle.spice_text.proofs.CellPorts.{greater_is_max}
use Rattle.spice_text.proofs.cells.net_count.Goals as goal

pub loop-device-preserved : goal.loop-device-preserved
loop-device-preserved c =
    let none : Device = record { kind = nch; drain = 0; gate = 0; source = 0 } in
    let more = used-more 2 c.args.shape.now c.loop-device.device-index none c.loop-device-test.true in
    let made : c.max-count.result ≡ numbers_used 2 (ends (take (c.loop-device.device-index + 1) c.args.shape.now)) =
    omega (
      arith,
      more,
      c.loop-device.invariant,
      c.from.ensures,
      c.max.ensures,
      c.from-in-loop-device.ensures,
      c.max-in-loop-device.ensures,
      c.from-in-loop-device-2.ensures,
      c.max-count.ensures,
      greater_is_max c.loop-device.count (c.from.result + 1),
      greater_is_max c.max.result (c.from-in-loop-device.result + 1),
      greater_is_max c.max-in-loop-device.result (c.from-in-loop-device-2.result + 1),
    ) in
    made
