use Rattle.std.proofs.Common.{◌≡◌, ◌∙◌, ap, arith, false, length, rules, slice_get, sym, vec_len}
use Rattle.std.proofs.lemmas.Option.{slice_get-get_or}
use Rattle.clock_phase.specs.Plans.{clocks_of}
use Rattle.tree_map.specs.MappedCover.{plan_trees}
use Rattle.compound_flow.specs.WholePlans.{parted_trees}
use Rattle.compound_flow.proofs.WholeLoops.{all_taken, next_part, next_place}
use Rattle.compound_flow.proofs.wholes.cell_plans.Goals as goal

pub cells-preserved : goal.cells-preserved
cells-preserved c =
    let at = c.cells in
    let low = next_place _ at.whole-iterator c.next.new.self at.yielded c.in-Some.whole at.invariant.turn c.in-Some.ensures.steps in
    let counted : vec_len at.plans ≡ length at.plans.items = search rules in
    let place = c.len-place.ensures ∙ counted in
    let all = ap length c.into_iter-whole-iterator.ensures.into_iter_gives.0 in
    next_part c.args.compound.now _ at.whole-iterator c.next.new.self at.yielded c.in-Some.whole at.plans.items _ c.cell_plan.result _
    at.invariant c.in-Some.ensures.steps c.in_ok-push.ensures.items c.cell_plan.ensures.trees c.cell_plan.ensures.clock
    (ap (slice_get c.args.compound.now) (sym place) ∙ slice_get-get_or c.args.compound.now c.len-place.result false (omega (arith, low, all, place, at.invariant.count, c.requires)))

pub returns-clause-trees : goal.returns-clause-trees
returns-clause-trees c =
    c.cells.invariant.trees ∙ ap (λ l. parted_trees c.args.compound.now (plan_trees l)) (all_taken _ c.cells.whole-iterator c.cells.yielded c.cells.invariant.turn c.in-None.ensures.steps.0
    ∙ c.into_iter-whole-iterator.ensures.into_iter_gives.0)

pub returns-clause-clocks : goal.returns-clause-clocks
returns-clause-clocks c =
    c.cells.invariant.clocks ∙ ap clocks_of (all_taken _ c.cells.whole-iterator c.cells.yielded c.cells.invariant.turn c.in-None.ensures.steps.0
    ∙ c.into_iter-whole-iterator.ensures.into_iter_gives.0)
