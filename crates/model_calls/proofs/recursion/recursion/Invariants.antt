use Rattle.std.proofs.Common.{take}
use Rattle.std.specs.List.{flat_map}
use Rattle.model_calls.specs.ModelFaults.{IsRecursion, uses_in}
use Rattle.model_calls.specs.FirstFaults.{NoneHolds}
use Rattle.model_calls.proofs.recursion.recursion.Given as goal

abbrev pub invariant-loop-index : goal.invariant-loop-index
invariant-loop-index l = NoneHolds (IsRecursion (record { models = l.models })) (flat_map uses_in (take l.index l.models))
