use Rattle.std.proofs.Common.{take}
use Rattle.model_calls.specs.Scans.{IsScan}
use Rattle.model_calls.proofs.ports.duplicate_in_list.Given as goal

abbrev pub invariant-loop-name : goal.invariant-loop-name
invariant-loop-name l = IsScan (λ x. Unit {0}) l.names (take l.name-index l.names) l.scan
