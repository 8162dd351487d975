use Rattle.std.proofs.Common.{[], ap, subst, sym, ◌++◌, ◌∙◌, ◌∷◌}
use Rattle.link_reduce.proofs.Spellings.{IsSpellingAll, popped_tree, spelling_begun, spelling_done, spelling_on, step_less}
use Rattle.link_reduce.proofs.spelling.spell.Goals as goal

pub steps-init : goal.steps-init
steps-init c =
    let parts = c.args.parts.now in
    let whole = c.args.whole in
    let b = c.in_ok-push.ensures.items ∙ ap (λ l. l ++ whole ∷ []) c.new-steps.ensures.items in
    subst (λ o. IsSpellingAll parts whole o c.push.new.self.items) (sym c.in_ok-order.ensures.items)
    (subst (IsSpellingAll parts whole []) (sym b) (spelling_begun parts whole))

pub take_apart-requires-clause-tree : goal.take_apart-requires-clause-tree
take_apart-requires-clause-tree c =
    popped_tree c.args.parts.now c.args.whole c.steps.order.items c.steps.steps.items c.take_step.new.steps.items c.in-Some.step c.in-Some.ensures.some c.steps.invariant
    c.args.count c.requires.tree

pub steps-smaller : goal.steps-smaller
steps-smaller c =
    step_less c.args.parts.now c.args.whole c.steps.order.items c.steps.steps.items c.take_step.new.steps.items c.in-Some.step c.in-Some.ensures.some c.steps.invariant
    c.take_apart.new.order.items c.take_apart.new.steps.items c.in_ok-take_apart.ensures c.args.count c.requires.tree

pub steps-preserved : goal.steps-preserved
steps-preserved c =
    spelling_on c.args.parts.now c.args.whole c.steps.order.items c.steps.steps.items c.take_step.new.steps.items c.in-Some.step c.in-Some.ensures.some c.steps.invariant
    c.take_apart.new.order.items c.take_apart.new.steps.items c.in_ok-take_apart.ensures

pub returns : goal.returns
returns c = λ to t u.
    spelling_done c.args.parts.now c.args.whole c.steps.order.items
    (subst (IsSpellingAll c.args.parts.now c.args.whole c.steps.order.items) c.in_default.ensures.none c.steps.invariant) to t u
