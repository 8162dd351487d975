use Rattle.compound_flow.proofs.WholeLoops.{ArePartedSoFar}
use Rattle.compound_flow.proofs.wholes.cell_plans.Given as goal

abbrev pub invariant-cells : goal.invariant-cells
invariant-cells l = ArePartedSoFar l.compound l.initial.whole-iterator l.whole-iterator l.yielded l.plans.items
