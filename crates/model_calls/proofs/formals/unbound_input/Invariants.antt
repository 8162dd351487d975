use Rattle.std.proofs.Common.{take}
use Rattle.model_calls.specs.Formals.{IsUnbound}
use Rattle.model_calls.specs.FirstFaults.{NoneHolds}
use Rattle.model_calls.proofs.formals.unbound_input.Given as goal

abbrev pub invariant-loop-input : goal.invariant-loop-input
invariant-loop-input l = NoneHolds (IsUnbound l.formals) (take l.input-index l.inputs)
