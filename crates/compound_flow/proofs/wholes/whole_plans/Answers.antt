use Rattle.std.proofs.Common.{◌∙◌, ap, map}
use Rattle.compound_cell.specs.CompoundCells.{whole_tree}
use Rattle.compound_plan.specs.CellPlans.{trees_of}
use Rattle.compound_flow.specs.WholePlans.{is_compound}
use Rattle.compound_flow.proofs.WholeLoops.{all_taken, next_kind, next_turn, next_whole}
use Rattle.compound_flow.proofs.wholes.whole_plans.Goals as goal

pub cells-preserved : goal.cells-preserved
cells-preserved c = record {
  turn = next_turn _ c.cells.plan-iterator c.next.new.self c.cells.yielded c.in-Some.plan c.cells.invariant.turn c.in-Some.ensures.steps;
  trees = next_whole c.cells.wholes.items _ c.cells.yielded c.in-Some.plan c.in_ok-whole.whole c.cells.invariant.trees c.in_ok-push-2.ensures.items c.in_ok-whole.ensures;
  kinds = next_kind c.cells.compound.items _ c.cells.yielded c.in-Some.plan c.is_compound.result c.cells.invariant.kinds c.in_ok-push.ensures.items c.is_compound.ensures;
}

pub returns-clause-trees : goal.returns-clause-trees
returns-clause-trees c =
    c.cells.invariant.trees ∙ ap (λ l. map whole_tree (map trees_of l)) (all_taken _ c.cells.plan-iterator c.cells.yielded c.cells.invariant.turn c.in-None.ensures.steps.0
    ∙ c.into_iter-plan-iterator.ensures.into_iter_gives.0)

pub returns-clause-compound : goal.returns-clause-compound
returns-clause-compound c =
    c.cells.invariant.kinds ∙ ap (λ l. map is_compound (map trees_of l)) (all_taken _ c.cells.plan-iterator c.cells.yielded c.cells.invariant.turn c.in-None.ensures.steps.0
    ∙ c.into_iter-plan-iterator.ensures.into_iter_gives.0)
