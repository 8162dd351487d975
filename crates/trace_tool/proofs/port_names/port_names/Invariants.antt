use Rattle.std.proofs.Common.{◌≡◌, ◌++◌, [], map, slice_index_or, take}
use Rattle.deck.specs.PortNames.{output_name, pin_name}
use Rattle.trace_tool.proofs.port_names.port_names.Given as goal

abbrev pub invariant-loop-input : goal.invariant-loop-input
invariant-loop-input l = l.ports.items ≡ map pin_name (take l.input l.fn.network.names)

abbrev pub invariant-loop-signal : goal.invariant-loop-signal
invariant-loop-signal l =
    l.ports.items ≡ map pin_name (take l.fn.network.inputs l.fn.network.names)
    ++ map (λ signal. output_name (slice_index_or l.fn.network.names signal [])) (take l.signal-index l.fn.network.outputs)
