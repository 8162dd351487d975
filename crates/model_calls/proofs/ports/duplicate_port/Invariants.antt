use Rattle.std.proofs.Common.{take}
use Rattle.std.specs.List.{flat_map}
use Rattle.model_calls.specs.ModelFaults.{IsDuplicatePort, ports_of_model}
use Rattle.model_calls.specs.FirstFaults.{NoneHolds}
use Rattle.model_calls.proofs.ports.duplicate_port.Given as goal

abbrev pub invariant-loop-model : goal.invariant-loop-model
invariant-loop-model l = NoneHolds IsDuplicatePort (flat_map ports_of_model (take l.model-index l.models))
