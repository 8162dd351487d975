use Rattle.std.proofs.Common.{take}
use Rattle.std.specs.List.{list_any}
use Rattle.synth_flow.specs.NamedComplements.{MarksAlso, is_plus_end}
use Rattle.synth_flow.proofs.complements.mark_ends.Given as goal

abbrev pub invariant-ends : goal.invariant-ends
invariant-ends l = MarksAlso l.fn.marks l.marks (λ leaf. list_any (is_plus_end leaf) (take l.end-index l.ends))
