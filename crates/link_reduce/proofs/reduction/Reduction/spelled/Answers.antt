use Rattle.std.proofs.Common.{ap, subst, sym, ◌∙◌}
use Rattle.link_reduce.specs.Reductions.{ReductionData, Unfolds}
use Rattle.link_reduce.specs.Spellings.{AreProper, HasShortTree}
use Rattle.link_reduce.specs.declared.spelling.Step.{Step}
use Rattle.link_reduce.proofs.Final.{left_short, live_low, none_network, not_joined, parts_proper, spelled_whole}
use Rattle.link_reduce.proofs.reduction.Reduction.spelled.Goals as goal

pub returns-in_default-clause-none : goal.returns-in_default-clause-none
returns-in_default-clause-none c = λ ends sound w h n.
    let y = none_network ends c.args.top c.args.bottom c.args.self.now sound c.requires.done w h n in
    c.in_default.ensures.none y.0 y.4

pub part-part-requires : goal.part-part-requires
part-part-requires c =
    let o = c.requires.sound in
    live_low o.0 c.args.top c.args.bottom c.args.self.now o.3 c.in-Some.last c.in-Some.ensures.some

pub returns-then-not-joins-clause-none : goal.returns-then-not-joins-clause-none
returns-then-not-joins-clause-none c = λ ends sound w h n.
    not_joined ends c.args.top c.args.bottom c.args.self.now sound c.in-Some.last c.part-part.result c.part-part.ensures c.in-Some.ensures.some
    (c.joins.ensures.no c.if-not-joins.true) c.requires.done w h n

pub spell-requires-clause-tree : goal.spell-requires-clause-tree
spell-requires-clause-tree c =
    let o = c.requires.sound in
    let r = c.args.self.now in
    let e = c.as_slice.ensures.value ∙ ap (λ (v : ReductionData). v.parts) c.self.view_is in
    let whole : Step = record { part = c.in-Some.last; from = c.args.top } in
    subst (λ ps. HasShortTree ps whole c.args.count) (sym e)
    (subst (HasShortTree r.parts whole) o.2
    (left_short o.0 c.args.top c.args.bottom r o.3 c.in-Some.last c.part-part.result c.part-part.ensures c.in-Some.ensures.some (c.joins.ensures.yes c.if-not-joins.false)))

pub spell-requires-clause-proper : goal.spell-requires-clause-proper
spell-requires-clause-proper c =
    let o = c.requires.sound in
    let e = c.as_slice.ensures.value ∙ ap (λ (v : ReductionData). v.parts) c.self.view_is in
    subst AreProper (sym e) (parts_proper o.0 c.args.top c.args.bottom c.args.self.now o.3)

pub returns-clause-some : goal.returns-clause-some
returns-clause-some c = λ ends sound.
    let e = c.as_slice.ensures.value ∙ ap (λ (v : ReductionData). v.parts) c.self.view_is in
    spelled_whole ends c.args.top c.args.bottom c.args.self.now sound c.in-Some.last c.part-part.result c.part-part.ensures c.in-Some.ensures.some
    (c.joins.ensures.yes c.if-not-joins.false) c.in_ok-order.order.items
    (λ to t u. c.in_ok-order.ensures to t (subst (λ ps. Unfolds ps c.in-Some.last c.args.top to t) (sym e) u))
