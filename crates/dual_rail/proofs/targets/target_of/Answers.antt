use Rattle.std.proofs.Common.{subst, sym}
use Rattle.gate_decompose.specs.Needed.{AsksFor}
use Rattle.dual_rail.specs.Targets.{asked_target}
use Rattle.dual_rail.proofs.TargetsOf.{signed_asks}
use Rattle.dual_rail.proofs.targets.target_of.Goals as goal

pub returns-then-plus : goal.returns-then-plus
returns-then-plus c = λ nodes are. subst (λ s. AsksFor nodes c.args.part s (asked_target c.plus_target-target.result)) (sym c.if-plus.true) (c.plus_target-target.ensures nodes are)

pub returns-else-plus : goal.returns-else-plus
returns-else-plus c = λ nodes are. signed_asks nodes c.args.part c.plus_target-target.result c.opposite.result c.args.plus c.if-plus.false c.opposite.ensures (c.plus_target-target.ensures nodes are)
