use Rattle.std.proofs.Common.{take}
use Rattle.std.specs.List.{flat_map}
use Rattle.model_calls.specs.CallNumbers.{AreCalls, IsUseOfNone}
use Rattle.model_calls.specs.ModelFaults.{uses_in}
use Rattle.model_calls.specs.FirstFaults.{NoneHolds}
use Rattle.model_calls.proofs.calls.call_graph.Given as goal

abbrev pub invariant-loop-model : goal.invariant-loop-model
invariant-loop-model l = AreCalls l.names (take l.model-index l.models) l.nodes.items × NoneHolds (IsUseOfNone l.names) (flat_map uses_in (take l.model-index l.models))
