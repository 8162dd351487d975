use Rattle.std.proofs.Common.{length, arith, ap, sym}
use Rattle.std.proofs.lemmas.List.{length-take-le}
use Rattle.deck.proofs.DeviceNumbers.{IsCircuit-ports}
use Rattle.trace_tool.proofs.port_names.ports_from.Goals as goal

pub slice_bounds-ports-end : goal.slice_bounds-ports-end
slice_bounds-ports-end c =
    sym (length-take-le c.circuit.inside.ports c.as_slice.result.now
    (omega (arith, ap length c.as_slice.ensures.keys, IsCircuit-ports c.circuit.inside.ports c.circuit.inside.nets.keys c.circuit.inside.devices.items c.circuit.invariant)))
