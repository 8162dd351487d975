use Rattle.std.proofs.Common.{◌≡◌, ◌≤◌, length, length-take, arith, ap}
use Rattle.deck.proofs.DeviceNumbers.{numbers_used-ge}
use Rattle.deck.specs.Nets.{ends}
use Rattle.deck.proofs.port_order.roles.Goals as goal

pub slice_bounds-roles_of-end : goal.slice_bounds-roles_of-end
slice_bounds-roles_of-end c =
    let same : c.as_slice-nets.result.now ≡ c.circuit.inside.nets.keys = c.as_slice-nets.ensures.keys in
    let long = numbers_used-ge c.circuit.inside.ports (ends c.circuit.inside.devices.items) in
    let le : c.circuit.inside.ports ≤ length c.as_slice-nets.result.now = omega (arith, ap length same, c.circuit.invariant.all_used, long) in
    simp length-take (omega (arith, le))
