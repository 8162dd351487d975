use Rattle.std.proofs.Common.{ap, inl, inr, length, ◌∙◌, subst}
use Rattle.std.proofs.lemmas.List.{length-replicate}
use Rattle.numbered_calls.proofs.Marking.{inputs_twice, outputs_twice, ports_marked}
use Rattle.numbered_calls.specs.PortMarks.{AreBarred, AreMarked}
use Rattle.numbered_calls.proofs.port_marks.PortMarks.new.Goals as goal

pub returns-then-not-inputs_differ-clause-twice : goal.returns-then-not-inputs_differ-clause-twice
returns-then-not-inputs_differ-clause-twice c = inl (inputs_twice c.args.count c.args.inputs.now
    (subst (λ l. AreBarred l c.args.inputs.now 1 1) (c.in_ok-vec.ensures.items_if_clones_equal (λ y e. e)) (c.mark_all-inputs_differ.ensures.barred c.if-not-inputs_differ.true)))

pub returns-then-not-outputs_differ-clause-twice : goal.returns-then-not-outputs_differ-clause-twice
returns-then-not-outputs_differ-clause-twice c = inr (outputs_twice c.args.count c.args.inputs.now c.mark_all-inputs_differ.new.self c.args.outputs.now
    (subst (λ l. AreMarked l c.args.inputs.now 1 1 c.mark_all-inputs_differ.new.self) (c.in_ok-vec.ensures.items_if_clones_equal (λ y e. e))
    (c.mark_all-inputs_differ.ensures.marked c.if-not-inputs_differ.false))
    (c.mark_all-outputs_differ.ensures.barred c.if-not-outputs_differ.true))

pub returns-clause-count : goal.returns-clause-count
returns-clause-count c =
    let one = c.mark_all-inputs_differ.ensures.marked c.if-not-inputs_differ.false in
    let two = c.mark_all-outputs_differ.ensures.marked c.if-not-outputs_differ.false in
    two.count ∙ one.count ∙ ap length (c.in_ok-vec.ensures.items_if_clones_equal (λ y e. e)) ∙ length-replicate c.args.count 0

pub returns-clause-ports : goal.returns-clause-ports
returns-clause-ports c = ports_marked c.args.count c.args.inputs.now c.args.outputs.now c.mark_all-inputs_differ.new.self c.mark_all-outputs_differ.new.self
    (subst (λ l. AreMarked l c.args.inputs.now 1 1 c.mark_all-inputs_differ.new.self) (c.in_ok-vec.ensures.items_if_clones_equal (λ y e. e))
    (c.mark_all-inputs_differ.ensures.marked c.if-not-inputs_differ.false))
    (c.mark_all-outputs_differ.ensures.marked c.if-not-outputs_differ.false)
