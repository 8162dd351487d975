use Rattle.std.proofs.Common.{take}
use Rattle.std.specs.List.{flat_map}
use Rattle.model_calls.specs.Formals.{HavePorts, formals_in_model}
use Rattle.model_calls.specs.ModelFaults.{IsBadFormal}
use Rattle.model_calls.specs.FirstFaults.{NoneHolds}
use Rattle.model_calls.proofs.formals.bad_formal.Given as goal

abbrev pub invariant-loop-index : goal.invariant-loop-index
invariant-loop-index l = NoneHolds IsBadFormal (flat_map (formals_in_model l.models) (take l.index l.models)) × HavePorts l.models l.tables
