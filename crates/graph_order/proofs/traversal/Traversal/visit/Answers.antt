use Rattle.std.proofs.Common.{rules, ◌≡◌, length, ap, sym, ◌∙◌, subst, append-nil}
use Rattle.dom_base.proofs.Lists.{length-none}
use Rattle.graph_order.specs.Traversals.{GoesOn, IsVisiting, HasVisited, TraversalData, with_frame}
use Rattle.graph_order.proofs.Traversals.{begins_met, begins_new, goes_on_under, under_way_ends, went_on}
use Rattle.graph_order.proofs.traversal.Traversal.visit.Goals as goal
use Rattle.graph_order.proofs.traversal.Traversal.visit.Goals.{in-New+in_ok-open, in_default}

pub frames-init : goal.frames-init
frames-init c = elim c.match-mark.branch [
  | in-New+in_ok-open w ↦ subst (IsVisiting c.args.nodes.now c.args.node c.args.self.now) (sym (w.self-is ∙ w.in_ok-open.ensures))
      (begins_new c.args.nodes.now c.args.self.now c.args.node c.requires.within c.requires.sound c.requires.ended)
  | in_default w ↦ subst (IsVisiting c.args.nodes.now c.args.node c.args.self.now) (sym w.self-is)
      (begins_met c.args.nodes.now c.args.self.now c.args.node c.mark.result c.requires.sound c.requires.ended c.mark.ensures w.in_default.not-New)
]

pub frames-preserved : goal.frames-preserved
frames-preserved c =
    let popped : TraversalData = record { marks = c.self-in-frames.inside.marks.items; stack = c.pop.new.self.items; done = c.self-in-frames.inside.done.items } in
    let same : with_frame popped c.in-Some.frame ≡ c.frames.self =
    ap (λ s. record { marks = c.self-in-frames.inside.marks.items; stack = s; done = c.self-in-frames.inside.done.items }) (sym c.in-Some.ensures.items) ∙ c.self-in-frames.view_is in
    goes_on_under c.args.nodes.now c.args.node c.args.self.now c.frames.self c.advance.new.self c.frames.invariant
    (subst (λ w. GoesOn c.args.nodes.now w c.advance.new.self) same
    (went_on c.args.nodes.now (with_frame popped c.in-Some.frame) c.advance.new.self c.in_ok-advance.field-0 c.if-branch.false c.in_ok-advance.ensures))

pub returns : goal.returns
returns c =
    let empty : length c.self-in-frames.inside.stack.items ≡ 0 = search (rules, c.in_default-pop.ensures.cases) in
    let same : record { marks = c.self-in-frames.inside.marks.items; stack = c.pop.new.self.items; done = c.self-in-frames.inside.done.items } ≡ c.frames.self =
    ap (λ s. record { marks = c.self-in-frames.inside.marks.items; stack = s; done = c.self-in-frames.inside.done.items }) (sym (append-nil c.pop.new.self.items) ∙ sym c.in_default-pop.ensures.items) ∙ c.self-in-frames.view_is in
    subst (HasVisited c.args.nodes.now c.args.node c.args.self.now) (sym same)
    (under_way_ends c.args.nodes.now c.args.node c.args.self.now c.frames.self c.frames.invariant
    (ap (λ (w : TraversalData). w.stack) (sym c.self-in-frames.view_is) ∙ length-none c.self-in-frames.inside.stack.items empty))
