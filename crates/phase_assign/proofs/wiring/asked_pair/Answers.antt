use Rattle.std.proofs.Common.{subst, sym}
use Rattle.phase_assign.specs.Wiring.{IsAskedBy}
use Rattle.phase_assign.proofs.Targets.{target_asked}
use Rattle.phase_assign.proofs.wiring.asked_pair.Goals as goal

pub returns : goal.returns
returns c = λ nodes are. subst (IsAskedBy nodes c.args.part) (sym c.pair.ensures) (target_asked nodes c.args.part c.target_of.result (c.target_of.ensures nodes are))
