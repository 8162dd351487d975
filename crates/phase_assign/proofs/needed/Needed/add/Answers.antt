-- One live pair more, or as many.
use Rattle.std.proofs.Common.{◌≡◌, ◌∙◌, length, ap, sym, rules}
use Rattle.dual_rail.proofs.Marks.{written_over}
use Rattle.phase_assign.proofs.UseSteps.{size_later, size_more}
use Rattle.phase_assign.proofs.needed.Needed.add.Goals as goal

pub returns-then-first-clause-size : goal.returns-then-first-clause-size
returns-then-first-clause-size c =
    let len : c.args.self.now.uses.len ≡ length c.args.self.now.uses.items = search rules in
    size_more c.args.pair c.args.self.now.uses.items c.as_mut_slice.result.now c.add_use-first.new.uses _ (length c.args.self.now.uses.items) c.args.self.now.size c.as_mut_slice.ensures.value
    (written_over c.args.self.now.uses.len c.add_use-first.new.uses c.args.self.now.uses.items (len ∙ sym (c.add_use-first.auto.uses ∙ ap length c.as_mut_slice.ensures.value)))
    c.add_use-first.ensures.uses (c.add_use-first.ensures.first c.if-first.true) c.requires.there c.requires.size

pub returns-else-first-clause-size : goal.returns-else-first-clause-size
returns-else-first-clause-size c =
    let len : c.args.self.now.uses.len ≡ length c.args.self.now.uses.items = search rules in
    size_later c.args.pair c.args.self.now.uses.items c.as_mut_slice.result.now c.add_use-first.new.uses _ (length c.args.self.now.uses.items) c.args.self.now.size c.as_mut_slice.ensures.value
    (written_over c.args.self.now.uses.len c.add_use-first.new.uses c.args.self.now.uses.items (len ∙ sym (c.add_use-first.auto.uses ∙ ap length c.as_mut_slice.ensures.value)))
    c.add_use-first.ensures.uses (c.add_use-first.ensures.later c.if-first.false) c.requires.size
