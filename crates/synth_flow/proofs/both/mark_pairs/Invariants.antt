use Rattle.std.proofs.Common.{take}
use Rattle.synth_flow.specs.NamedComplements.{MarksAlso}
use Rattle.synth_flow.specs.Summaries.{needs}
use Rattle.synth_flow.proofs.both.mark_pairs.Given as goal

abbrev pub invariant-pairs : goal.invariant-pairs
invariant-pairs l = MarksAlso l.fn.marks l.marks (needs (take l.pair-index l.pairs) l.sign)
