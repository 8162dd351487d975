use Rattle.std.proofs.Common.{take}
use Rattle.model_calls.specs.Formals.{HavePorts, formals_in}
use Rattle.model_calls.specs.ModelFaults.{IsBadFormal}
use Rattle.model_calls.specs.FirstFaults.{NoneHolds}
use Rattle.model_calls.proofs.formals.bad_in_model.Given as goal

abbrev pub invariant-loop-index : goal.invariant-loop-index
invariant-loop-index l = NoneHolds IsBadFormal (formals_in l.models (take l.index l.instances)) × HavePorts l.models l.tables
