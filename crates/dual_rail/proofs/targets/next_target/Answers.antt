use Rattle.std.proofs.Common.{length}
use Rattle.dual_rail.proofs.TargetsOf.{not_target, operator_target}
use Rattle.dual_rail.proofs.targets.next_target.Goals as goal

pub returns-in-Not : goal.returns-in-Not
returns-in-Not c = λ nodes are at. not_target nodes (length c.args.targets.now) c.args.node c.in-Not.part _ at c.in-Not.is (c.target_of.ensures nodes are)

pub returns-in-And : goal.returns-in-And
returns-in-And c = λ nodes are at. operator_target nodes (length c.args.targets.now) c.args.node at c.in-And.is
