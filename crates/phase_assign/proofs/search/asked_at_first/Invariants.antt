use Rattle.std.proofs.Common.{◌≡◌, true, flat_map, take}
use Rattle.std.proofs.Common.{Option}
use Rattle.phase_assign.specs.Uses.{asked}
use Rattle.dual_rail.specs.declared.signed.SignedNode.{SignedNode}
use Rattle.phase_assign.proofs.search.asked_at_first.Given as goal

abbrev pub invariant-loop-end : goal.invariant-loop-end
invariant-loop-end l = l.work.items ≡ flat_map (λ (e : Option SignedNode). asked e true) (take l.end-index l.ends)
