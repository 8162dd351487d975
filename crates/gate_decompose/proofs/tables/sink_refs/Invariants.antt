use Rattle.std.proofs.Common.{◌≡◌, ◌++◌, map, take}
use Rattle.gate_decompose.specs.RowItems.{ref_at}
use Rattle.network.specs.declared.network.NetLatch.{NetLatch}
use Rattle.gate_decompose.proofs.tables.sink_refs.Given as goal

abbrev pub invariant-loop-output : goal.invariant-loop-output
invariant-loop-output l = l.sinks.items ≡ map (ref_at l.refs) (take l.output-index l.fn.network.outputs)

abbrev pub invariant-loop-latch : goal.invariant-loop-latch
invariant-loop-latch l =
    l.sinks.items ≡ map (ref_at l.refs) l.fn.network.outputs ++ map (λ (x : NetLatch). ref_at l.refs x.input) (take l.latch-index l.fn.network.latches)
