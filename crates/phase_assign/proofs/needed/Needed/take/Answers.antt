-- One live pair less, or as many.
use Rattle.std.proofs.Common.{◌≡◌, ◌∙◌, length, take, drop, ◌++◌, ap, sym, arith, rules}
use Rattle.dual_rail.proofs.Marks.{written_over}
use Rattle.phase_assign.specs.Uses.{used}
use Rattle.phase_assign.proofs.UseSteps.{size_kept, size_less}
use Rattle.phase_assign.proofs.needed.Needed.take.Goals as goal

pub overflow_sub-self : goal.overflow_sub-self
overflow_sub-self c =
    let less = size_less c.args.pair c.args.self.now.uses.items c.as_mut_slice.result.now c.take_use-last.new.uses c.take_use-last.new.uses (length c.args.self.now.uses.items) c.args.self.now.size
    c.as_mut_slice.ensures.value (λ i. c.take_use-last.new.uses) c.take_use-last.ensures.uses (c.take_use-last.ensures.last c.if-last.true) c.requires.there c.requires.size in
    omega arith

pub returns-then-last-clause-size : goal.returns-then-last-clause-size
returns-then-last-clause-size c =
    let len : c.args.self.now.uses.len ≡ length c.args.self.now.uses.items = search rules in
    let less = size_less c.args.pair c.args.self.now.uses.items c.as_mut_slice.result.now c.take_use-last.new.uses
    (take c.args.self.now.uses.len (c.take_use-last.new.uses ++ drop (length c.take_use-last.new.uses) c.args.self.now.uses.items)) (length c.args.self.now.uses.items) c.args.self.now.size
    c.as_mut_slice.ensures.value
    (written_over c.args.self.now.uses.len c.take_use-last.new.uses c.args.self.now.uses.items (len ∙ sym (c.take_use-last.auto.uses ∙ ap length c.as_mut_slice.ensures.value)))
    c.take_use-last.ensures.uses (c.take_use-last.ensures.last c.if-last.true) c.requires.there c.requires.size in
    omega arith

pub returns-then-last-clause-last : goal.returns-then-last-clause-last
returns-then-last-clause-last c =
    let len : c.args.self.now.uses.len ≡ length c.args.self.now.uses.items = search rules in
    let same = written_over c.args.self.now.uses.len c.take_use-last.new.uses c.args.self.now.uses.items (len ∙ sym (c.take_use-last.auto.uses ∙ ap length c.as_mut_slice.ensures.value)) in
    let less = size_less c.args.pair c.args.self.now.uses.items c.as_mut_slice.result.now c.take_use-last.new.uses c.take_use-last.new.uses (length c.args.self.now.uses.items) c.args.self.now.size
    c.as_mut_slice.ensures.value (λ i. c.take_use-last.new.uses) c.take_use-last.ensures.uses (c.take_use-last.ensures.last c.if-last.true) c.requires.there c.requires.size in
    λ e. (ap (λ us. used us c.args.pair.node c.args.pair.plus) same ∙ c.take_use-last.ensures.last c.if-last.true, omega arith)

pub returns-else-last-clause-size : goal.returns-else-last-clause-size
returns-else-last-clause-size c =
    let len : c.args.self.now.uses.len ≡ length c.args.self.now.uses.items = search rules in
    size_kept c.args.pair c.args.self.now.uses.items c.as_mut_slice.result.now c.take_use-last.new.uses _ (length c.args.self.now.uses.items) c.args.self.now.size c.as_mut_slice.ensures.value
    (written_over c.args.self.now.uses.len c.take_use-last.new.uses c.args.self.now.uses.items (len ∙ sym (c.take_use-last.auto.uses ∙ ap length c.as_mut_slice.ensures.value)))
    c.take_use-last.ensures.uses (c.take_use-last.ensures.earlier c.if-last.false) c.requires.size
