use Rattle.std.proofs.Common.{take}
use Rattle.net_flatten.specs.Dependences.{AreDependences}
use Rattle.net_flatten.proofs.dependence.dependences.Given as goal

abbrev pub invariant-loop-index : goal.invariant-loop-index
invariant-loop-index l = AreDependences l.signals (take l.index l.parts) l.nodes.items
