use Rattle.std.proofs.Common.{take}
use Rattle.std.specs.List.{AllZip}
use Rattle.dual_rail.specs.Forests.{IsPairOf}
use Rattle.dual_rail.proofs.arms.pairs_of.Given as goal

abbrev pub invariant-loop-node : goal.invariant-loop-node
invariant-loop-node l = AllZip (IsPairOf l.nodes l.origin) (take l.node-index l.origin) l.pairs.items
