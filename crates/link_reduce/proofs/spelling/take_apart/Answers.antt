use Rattle.std.proofs.Common.{[], inl, inr, refl, subst, sym}
use Rattle.link_reduce.specs.Spellings.{IsTakenApart}
use Rattle.link_reduce.proofs.Options.{on_ok}
use Rattle.link_reduce.proofs.Spellings.{given_apart, parallel_apart, read_series, series_apart, stands, stands_at}
use Rattle.link_reduce.proofs.spelling.take_apart.Goals as goal

pub part_at-part-requires : goal.part_at-part-requires
part_at-part-requires c = let y = c.requires.tree in stands c.args.parts.now c.args.step.part c.args.step.from y.0 y.1 y.2

pub put_series-requires-clause-within : goal.put_series-requires-clause-within
put_series-requires-clause-within c =
    let h = c.requires.tree in
    let y = read_series c.args.parts.now c.args.step c.part_at-part.result c.part_at-part.ensures [] [] c.in-Series.one c.in-Series.other 0 c.requires.proper
    (inl (c.in-Series.is, c.if-part-step.true)) h.0 h.1 h.2 in
    stands c.args.parts.now c.in-Series.one c.args.step.from y.m y.left y.one_is

pub put_series-requires-clause-ends : goal.put_series-requires-clause-ends
put_series-requires-clause-ends c =
    let h = c.requires.tree in
    let y = read_series c.args.parts.now c.args.step c.part_at-part.result c.part_at-part.ensures [] [] c.in-Series.one c.in-Series.other 0 c.requires.proper
    (inl (c.in-Series.is, c.if-part-step.true)) h.0 h.1 h.2 in
    stands_at c.args.parts.now c.in-Series.one c.args.step.from y.m y.left y.one_is

pub returns-then-part-step : goal.returns-then-part-step
returns-then-part-step c = on_ok c.put_series.result
    (λ e. subst (IsTakenApart c.args.parts.now c.args.step c.args.order.now.items c.args.order.now.items c.args.steps.now.items) (sym e.2)
    (series_apart c.args.parts.now c.args.step c.part_at-part.result c.part_at-part.ensures c.args.order.now.items c.args.steps.now.items c.in-Series.one c.in-Series.other e.0
    c.requires.proper (inl (c.in-Series.is, c.if-part-step.true)) e.1))
    c.put_series.ensures

pub put_series-requires-in-Series-clause-within : goal.put_series-requires-in-Series-clause-within
put_series-requires-in-Series-clause-within c =
    let h = c.requires.tree in
    let y = read_series c.args.parts.now c.args.step c.part_at-part.result c.part_at-part.ensures [] [] c.in-Series.other c.in-Series.one 0 c.requires.proper
    (inr (c.in-Series.is, c.if-part-step.false)) h.0 h.1 h.2 in
    stands c.args.parts.now c.in-Series.other c.args.step.from y.m y.left y.one_is

pub put_series-requires-in-Series-clause-ends : goal.put_series-requires-in-Series-clause-ends
put_series-requires-in-Series-clause-ends c =
    let h = c.requires.tree in
    let y = read_series c.args.parts.now c.args.step c.part_at-part.result c.part_at-part.ensures [] [] c.in-Series.other c.in-Series.one 0 c.requires.proper
    (inr (c.in-Series.is, c.if-part-step.false)) h.0 h.1 h.2 in
    stands_at c.args.parts.now c.in-Series.other c.args.step.from y.m y.left y.one_is

pub returns-in_ok-push-in-Given : goal.returns-in_ok-push-in-Given
returns-in_ok-push-in-Given c =
    subst (λ l. IsTakenApart c.args.parts.now c.args.step c.args.order.now.items l c.args.steps.now.items c.args.steps.now.items) (sym c.in_ok-push-in-Given.ensures.items)
    (given_apart c.args.parts.now c.args.step c.part_at-part.result c.part_at-part.ensures c.args.order.now.items c.args.steps.now.items c.in-Given.is)

pub returns-else-part-step : goal.returns-else-part-step
returns-else-part-step c = on_ok c.put_series-in-Series.result
    (λ e. subst (IsTakenApart c.args.parts.now c.args.step c.args.order.now.items c.args.order.now.items c.args.steps.now.items) (sym e.2)
    (series_apart c.args.parts.now c.args.step c.part_at-part.result c.part_at-part.ensures c.args.order.now.items c.args.steps.now.items c.in-Series.other c.in-Series.one e.0
    c.requires.proper (inr (c.in-Series.is, c.if-part-step.false)) e.1))
    c.put_series-in-Series.ensures

pub returns-in-Parallel : goal.returns-in-Parallel
returns-in-Parallel c = on_ok c.put_two.result
    (λ e. subst (IsTakenApart c.args.parts.now c.args.step c.args.order.now.items c.args.order.now.items c.args.steps.now.items) (sym e)
    (parallel_apart c.args.parts.now c.args.step c.part_at-part.result c.part_at-part.ensures c.args.order.now.items c.args.steps.now.items c.in-Parallel.one c.in-Parallel.other
    c.args.step.from c.in-Parallel.is refl))
    c.put_two.ensures
