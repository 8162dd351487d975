use Rattle.std.proofs.Common.{take}
use Rattle.model_calls.specs.NumberSets.{IsSetOf}
use Rattle.model_calls.proofs.number_set.NumberSet.of.Given as goal

abbrev pub invariant-loop-number : goal.invariant-loop-number
invariant-loop-number l = IsSetOf l.bound (take l.number-index l.numbers) l.set
