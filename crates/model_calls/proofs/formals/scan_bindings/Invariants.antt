use Rattle.std.proofs.Common.{take}
use Rattle.std.specs.Prelude.{Contains}
use Rattle.model_calls.specs.Formals.{bound_formals, names_of_ports}
use Rattle.model_calls.specs.Scans.{IsScan}
use Rattle.model_calls.proofs.formals.scan_bindings.Given as goal

abbrev pub invariant-loop-binding : goal.invariant-loop-binding
invariant-loop-binding l = IsScan (Contains (names_of_ports l.unit)) (bound_formals l.bindings) (take l.binding-index (bound_formals l.bindings)) l.scan
