use Rattle.std.proofs.Common.{◌≡◌, drop, inl, inr}
use Rattle.std.specs.Prelude.{Some, slice_get}
use Rattle.dom_base.proofs.Lists.{AllByRecursion-contains}
use Rattle.local_names.specs.LocalNames.{firsts}
use Rattle.numbered_calls.proofs.Marking.{bound_formals, bound_marks, unbound_input, wrong_formal}
use Rattle.numbered_calls.proofs.port_marks.PortMarks.bind.Goals as goal

pub returns-then-mark_formals-clause-marks : goal.returns-then-mark_formals-clause-marks
returns-then-mark_formals-clause-marks c = λ t ports h.
    bound_marks c.args.inputs.now ports (firsts (drop 1 c.args.words.now)) c.args.self.now c.mark_formals.new.self c.args.mark h (c.mark_formals.ensures.marked c.if-mark_formals.true)

pub returns-then-mark_formals-clause-bound : goal.returns-then-mark_formals-clause-bound
returns-then-mark_formals-clause-bound c = λ t ports h.
    bound_formals c.args.inputs.now ports (firsts (drop 1 c.args.words.now)) c.args.self.now c.mark_formals.new.self c.args.mark h (c.mark_formals.ensures.marked c.if-mark_formals.true)
    (λ k. AllByRecursion-contains (λ place. slice_get c.mark_formals.new.self place ≡ Some c.args.mark) c.args.inputs.now k (c.has_all.ensures.all t))

pub returns-then-mark_formals-clause-bad : goal.returns-then-mark_formals-clause-bad
returns-then-mark_formals-clause-bad c = λ f ports h.
    let none = c.has_all.ensures.none f in
    inr (unbound_input c.args.inputs.now ports (firsts (drop 1 c.args.words.now)) c.args.self.now c.mark_formals.new.self c.args.mark h (c.mark_formals.ensures.marked c.if-mark_formals.true)
    none.0 none.1 none.2)

pub returns-else-mark_formals-clause-bad : goal.returns-else-mark_formals-clause-bad
returns-else-mark_formals-clause-bad c = λ f ports h.
    inl (wrong_formal ports (firsts (drop 1 c.args.words.now)) c.args.self.now c.args.mark h (c.mark_formals.ensures.barred c.if-mark_formals.false))
