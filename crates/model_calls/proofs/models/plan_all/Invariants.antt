use Rattle.std.proofs.Common.{take}
use Rattle.model_calls.specs.ModelCalls.{HavePlans}
use Rattle.model_calls.proofs.models.plan_all.Given as goal

abbrev pub invariant-loop-index : goal.invariant-loop-index
invariant-loop-index l = HavePlans (take l.index l.models) l.nodes l.plans.items
