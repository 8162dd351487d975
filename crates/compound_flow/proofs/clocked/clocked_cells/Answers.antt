use Rattle.std.proofs.Common.{◌≡◌, ◌∙◌, ap, ap₂, arith, length, map, subst, sym}
use Rattle.std.proofs.lemmas.List.{length-map}
use Rattle.sp_network.specs.TypedTree.{tree_of}
use Rattle.sp_network.specs.declared.plan.GatePlan.{GatePlan}
use Rattle.clock_phase.specs.Levels.{AreLevels}
use Rattle.clock_phase.specs.Plans.{ReadEarlierCells}
use Rattle.dual_rail.specs.ForestData.{ForestData}
use Rattle.dual_rail.specs.ForestOrder.{IsForest}
use Rattle.tree_map.specs.CompoundCover.{cell_trees}
use Rattle.tree_map.specs.MappedCover.{plan_trees}
use Rattle.compound_plan.specs.Plans.{IsChosenPlan, compound_costs}
use Rattle.compound_cell.specs.CompoundCells.{whole_tree}
use Rattle.synth_flow.specs.BareDecks.{named_leaves}
use Rattle.compound_flow.specs.WholePlans.{is_compound, parted_trees}
use Rattle.compound_flow.proofs.CompoundCovers.{few_wholes, wholes_read_earlier}
use Rattle.compound_flow.proofs.WholeLoops.{parts_are}
use Rattle.compound_flow.proofs.clocked.clocked_cells.Goals as goal

pub with_clocks-requires-clause-room : goal.with_clocks-requires-clause-room
with_clocks-requires-clause-room c =
    let forest = c.args.forest.now in
    let is = subst IsForest c.forest.view_is c.forest.invariant in
    let chosen = c.in_ok-kept.ensures.chosen in
    let leaves : c.forest.inside.leaves ≡ forest.leaves = ap (λ (f : ForestData). f.leaves) c.forest.view_is in
    let few = few_wholes forest is c.args.bounds.w c.args.bounds.h c.in_ok-kept.field-0.kept.items chosen.0 (cell_trees c.in_ok-kept.field-0.plans.items) chosen.1.plan in
    omega (
      arith,
      leaves,
      is.few_leaves,
      few,
      ap length c.in_ok-wholes.ensures.trees,
      length-map c.in_ok-wholes.field-0.plans.items (λ (p : GatePlan). tree_of p.tree),
    )

pub with_clocks-requires-clause-earlier : goal.with_clocks-requires-clause-earlier
with_clocks-requires-clause-earlier c =
    let forest = c.args.forest.now in
    let is = subst IsForest c.forest.view_is c.forest.invariant in
    let chosen = c.in_ok-kept.ensures.chosen in
    let wholes = c.in_ok-wholes.field-0.plans.items in
    let leaves : c.forest.inside.leaves ≡ forest.leaves = ap (λ (f : ForestData). f.leaves) c.forest.view_is in
    subst (λ n. ReadEarlierCells n (plan_trees wholes)) (sym leaves)
    (subst (ReadEarlierCells forest.leaves) (sym c.in_ok-wholes.ensures.trees)
    (wholes_read_earlier forest is c.args.bounds.w c.args.bounds.h c.in_ok-kept.field-0.kept.items chosen.0 (cell_trees c.in_ok-kept.field-0.plans.items) chosen.1.plan))

pub cell_plans-requires : goal.cell_plans-requires
cell_plans-requires c =
    let trees = cell_trees c.in_ok-kept.field-0.plans.items in
    let made = c.in_ok-clocked.ensures in
    omega (
      arith,
      ap length (c.as_slice-3.ensures.value ∙ c.in_ok-wholes.ensures.compound),
      length-map trees is_compound,
      length-map trees whole_tree,
      ap length (made.trees ∙ c.in_ok-wholes.ensures.trees),
      length-map c.in_ok-clocked.clocked.items (λ (p : GatePlan). tree_of p.tree),
    )

pub returns : goal.returns
returns c =
    let forest = c.args.forest.now in
    let w = c.args.bounds.w in
    let h = c.args.bounds.h in
    let kept = c.in_ok-kept.field-0.kept.items in
    let before = cell_trees c.in_ok-kept.field-0.plans.items in
    let chosen = c.in_ok-kept.ensures.chosen in
    let leaves : c.forest.inside.leaves ≡ forest.leaves = ap (λ (f : ForestData). f.leaves) c.forest.view_is in
    let made = c.in_ok-clocked.ensures in
    let clocked = c.in_ok-clocked.clocked.items in
    let whole : plan_trees clocked ≡ map whole_tree before = made.trees ∙ c.in_ok-wholes.ensures.trees in
    let plans = c.in_ok-plans.plans.items in
    let same : cell_trees plans ≡ before
    = c.in_ok-plans.ensures.trees ∙ ap₂ parted_trees (c.as_slice-3.ensures.value ∙ c.in_ok-wholes.ensures.compound) whole ∙ parts_are before in
    let slices = ap₂ (λ l e. named_leaves l e c.forest.inside.leaves) c.as_slice.ensures.value (c.as_slice-2.ensures.value ∙ ap (λ (f : ForestData). f.ends) c.forest.view_is) in
    record {
      kept = kept;
      split = chosen.0;
      chosen = subst (IsChosenPlan compound_costs forest w h kept chosen.0) (sym same) chosen.1;
      cells_are = c.in_ok-kept.ensures.cells;
      levels = made.levels;
      levels_are = subst (λ l. AreLevels forest.leaves (map whole_tree l) made.levels) (sym same)
          (subst (λ l. AreLevels forest.leaves l made.levels) c.in_ok-wholes.ensures.trees
          (subst (λ n. AreLevels n (plan_trees c.in_ok-wholes.field-0.plans.items) made.levels) leaves made.levels_are));
      clocks_are = c.in_ok-plans.ensures.clocks ∙ made.clocks;
      wholes = clocked;
      wholes_are = whole ∙ ap (map whole_tree) (sym same);
      whole_clocks = made.clocks;
      complements_are = c.in_ok-complements.ensures ∙ slices ∙ ap (named_leaves clocked forest.ends) leaves;
    }
