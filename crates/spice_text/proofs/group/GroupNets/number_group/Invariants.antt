use Rattle.std.proofs.Common.{drop}
use Rattle.spice_text.proofs.GroupLoops.{AreNumbered}
use Rattle.spice_text.proofs.group.GroupNets.number_group.Given as goal

abbrev pub invariant-loop-device : goal.invariant-loop-device
invariant-loop-device l = AreNumbered l.fn.self l.self l.shape l.group (drop l.device-index l.group) l.device-index
