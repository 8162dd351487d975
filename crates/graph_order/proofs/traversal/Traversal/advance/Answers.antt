use Rattle.std.proofs.Common.{length, arith, ap, sym, ◌∙◌, subst}
use Rattle.std.specs.Prelude.{slice_get}
use Rattle.graph_order.specs.Traversals.{GoesOn, TraversalData, with_opened, with_frame}
use Rattle.graph_order.proofs.Traversals.{circle, finish_goes_on, look_goes_on, open_goes_on, child_inside}
use Rattle.graph_order.proofs.traversal.Traversal.advance.Goals as goal

pub returns-in_default : goal.returns-in_default
returns-in_default c =
    subst (GoesOn c.args.nodes.now (with_frame c.args.self.now c.args.frame)) (sym c.in_ok-finish.ensures)
    (finish_goes_on c.args.nodes.now c.args.self.now c.args.frame c.requires.sound (sym c.in_default.ensures.next))

pub mark-requires : goal.mark-requires
mark-requires c =
    let inside = child_inside c.args.nodes.now c.args.self.now c.args.frame c.requires.sound c.in-Some.child (sym c.in-Some.ensures.next) c.requires.graph in
    let same = c.requires.sound.marks in
    let marks = ap (λ (w : TraversalData). length w.marks) c.in_ok-look.ensures in
    record { within = omega (arith, inside, same, marks) }

pub open-requires : goal.open-requires
open-requires c =
    let inside = child_inside c.args.nodes.now c.args.self.now c.args.frame c.requires.sound c.in-Some.child (sym c.in-Some.ensures.next) c.requires.graph in
    let same = c.requires.sound.marks in
    let marks = ap (λ (w : TraversalData). length w.marks) c.in_ok-look.ensures in
    record { within = omega (arith, inside, same, marks) }

pub returns-in-Done : goal.returns-in-Done
returns-in-Done c =
    subst (GoesOn c.args.nodes.now (with_frame c.args.self.now c.args.frame)) (sym c.in_ok-look.ensures)
    (look_goes_on c.args.nodes.now c.args.self.now c.args.frame c.requires.sound c.in-Some.child (sym c.in-Some.ensures.next)
    (ap (λ (w : TraversalData). slice_get w.marks c.in-Some.child) (sym c.in_ok-look.ensures) ∙ c.in-Done.ensures))

pub returns-in-Open : goal.returns-in-Open
returns-in-Open c =
    circle c.args.nodes.now c.args.self.now c.args.frame c.requires.sound c.in-Some.child (sym c.in-Some.ensures.next)
    (ap (λ (w : TraversalData). slice_get w.marks c.in-Some.child) (sym c.in_ok-look.ensures) ∙ c.in-Open.ensures)

pub returns-in_ok-open-in-New : goal.returns-in_ok-open-in-New
returns-in_ok-open-in-New c =
    subst (GoesOn c.args.nodes.now (with_frame c.args.self.now c.args.frame))
    (sym (c.in_ok-open-in-New.ensures ∙ ap (λ w. with_opened w c.in-Some.child) c.in_ok-look.ensures))
    (open_goes_on c.args.nodes.now c.args.self.now c.args.frame c.requires.sound c.in-Some.child (sym c.in-Some.ensures.next) c.requires.graph
    (ap (λ (w : TraversalData). slice_get w.marks c.in-Some.child) (sym c.in_ok-look.ensures) ∙ c.in-New.ensures))
