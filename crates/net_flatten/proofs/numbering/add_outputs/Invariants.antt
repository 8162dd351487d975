use Rattle.std.proofs.Common.{take}
use Rattle.net_flatten.proofs.TableOutputs.{AreOutputs}
use Rattle.net_flatten.proofs.numbering.add_outputs.Given as goal

abbrev pub invariant-loop-index : goal.invariant-loop-index
invariant-loop-index l = AreOutputs l.parts (take l.index l.tables) l.fn.numbers.items l.numbers.items
