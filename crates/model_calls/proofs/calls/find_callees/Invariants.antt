use Rattle.std.proofs.Common.{take}
use Rattle.model_calls.specs.CallNumbers.{AreCallees, IsOfNone}
use Rattle.model_calls.specs.FirstFaults.{NoneHolds}
use Rattle.model_calls.proofs.calls.find_callees.Given as goal

abbrev pub invariant-loop-instance : goal.invariant-loop-instance
invariant-loop-instance l = AreCallees l.names (take l.instance-index l.instances) l.next.items × NoneHolds (IsOfNone l.names) (take l.instance-index l.instances)
