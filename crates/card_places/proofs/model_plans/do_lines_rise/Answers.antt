use Rattle.std.proofs.Common.{drop, map, subst, ◌+◌, arith}
use Rattle.numbered_file.specs.declared.parts.PartAt.{PartAt}
use Rattle.card_places.specs.PartCards.{RisesFrom}
use Rattle.card_places.proofs.PartPlans.{rises-next}
use Rattle.card_places.proofs.model_plans.do_lines_rise.Goals as goal

pub loop-index-preserved : goal.loop-index-preserved
loop-index-preserved c = λ h.
    let part = c.part_at.result in
    let i = c.loop-index.index in
    c.loop-index.invariant (rises-next c.args.parts.now i c.loop-index.low part c.part_at.ensures
    (omega (arith, c.if-line-low.false, c.from-line.ensures))
    (subst (λ n. RisesFrom (n + 1) (map (λ (p : PartAt). p.line) (drop (i + 1) c.args.parts.now))) c.from-line.ensures h))
