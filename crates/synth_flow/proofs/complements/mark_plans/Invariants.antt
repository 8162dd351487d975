use Rattle.std.proofs.Common.{take}
use Rattle.synth_flow.specs.NamedComplements.{MarksAlso, are_read}
use Rattle.synth_flow.proofs.complements.mark_plans.Given as goal

abbrev pub invariant-plans : goal.invariant-plans
invariant-plans l = MarksAlso l.fn.marks l.marks (are_read (take l.plan-index l.plans))
