use Rattle.std.proofs.Common.{Some, ap, sym, ◌∙◌}
use Rattle.part_numbers.proofs.ExpansionWork.{deep}
use Rattle.part_numbers.proofs.walk.Expansion.step.Goals as goal

pub overflow_sub-frame : goal.overflow_sub-frame
overflow_sub-frame c = deep c.args.plans.now c.args.self.now c.args.frame c.in-Instance.index c.in-Instance.unit c.requires.under_way (sym c.in-Some.ensures.card ∙ ap Some c.in-Instance.is)
