use Rattle.compound_flow.proofs.WholeLoops.{AreWholesSoFar}
use Rattle.compound_flow.proofs.wholes.whole_plans.Given as goal

abbrev pub invariant-cells : goal.invariant-cells
invariant-cells l = AreWholesSoFar l.initial.plan-iterator l.plan-iterator l.yielded l.wholes.items l.compound.items
