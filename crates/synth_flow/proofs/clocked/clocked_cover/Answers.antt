use Rattle.std.proofs.Common.{◌≡◌, ◌<◌, length, ap, arith, subst, sym, ◌∙◌}
use Rattle.std.proofs.lemmas.List.{length-map}
use Rattle.sp_network.specs.TypedTree.{tree_of}
use Rattle.sp_network.specs.declared.plan.GatePlan.{GatePlan}
use Rattle.clock_phase.specs.Levels.{AreLevels}
use Rattle.clock_phase.specs.Plans.{ReadEarlierCells}
use Rattle.dual_rail.specs.ForestData.{ForestData}
use Rattle.dual_rail.specs.ForestOrder.{IsForest}
use Rattle.tree_map.specs.LeastPlans.{IsChosenPlan}
use Rattle.tree_map.specs.MappedCover.{plan_trees}
use Rattle.synth_flow.proofs.SynthFacts.{few_trees, reads_earlier}
use Rattle.synth_flow.proofs.clocked.clocked_cover.Goals as goal

pub with_clocks-requires-clause-room : goal.with_clocks-requires-clause-room
with_clocks-requires-clause-room c =
    let forest = c.args.forest.now in
    let is = subst IsForest c.forest.view_is c.forest.invariant in
    let kept = c.in_ok-kept.field-0.kept.items in
    let plans = c.in_ok-kept.field-0.plans.items in
    let chosen : IsChosenPlan forest c.args.bounds.w c.args.bounds.h kept (plan_trees plans) = c.in_ok-kept.ensures.chosen in
    let leaves : c.forest.inside.leaves ≡ forest.leaves = ap (λ (f : ForestData). f.leaves) c.forest.view_is in
    omega (arith, leaves, is.few_leaves, few_trees forest kept c.args.bounds.w c.args.bounds.h (plan_trees plans) chosen.plan is, length-map plans (λ (p : GatePlan). tree_of p.tree))

pub with_clocks-requires-clause-earlier : goal.with_clocks-requires-clause-earlier
with_clocks-requires-clause-earlier c =
    let forest = c.args.forest.now in
    let is = subst IsForest c.forest.view_is c.forest.invariant in
    let kept = c.in_ok-kept.field-0.kept.items in
    let trees = plan_trees c.in_ok-kept.field-0.plans.items in
    let chosen : IsChosenPlan forest c.args.bounds.w c.args.bounds.h kept trees = c.in_ok-kept.ensures.chosen in
    let leaves : c.forest.inside.leaves ≡ forest.leaves = ap (λ (f : ForestData). f.leaves) c.forest.view_is in
    subst (λ n. ReadEarlierCells n trees) (sym leaves) (reads_earlier forest kept c.args.bounds.w c.args.bounds.h trees chosen.plan is)

pub returns : goal.returns
returns c =
    let forest = c.args.forest.now in
    let kept = c.in_ok-kept.field-0.kept.items in
    let trees = plan_trees c.in_ok-kept.field-0.plans.items in
    let chosen : IsChosenPlan forest c.args.bounds.w c.args.bounds.h kept trees = c.in_ok-kept.ensures.chosen in
    let leaves : c.forest.inside.leaves ≡ forest.leaves = ap (λ (f : ForestData). f.leaves) c.forest.view_is in
    let made = c.in_ok-plans.ensures in
    record {
      chosen = subst (IsChosenPlan forest c.args.bounds.w c.args.bounds.h kept) (sym made.trees) chosen;
      cells_are = c.in_ok-kept.ensures.cells;
      levels = made.levels;
      levels_are = subst (λ t. AreLevels forest.leaves t made.levels) (sym made.trees) (subst (λ n. AreLevels n trees made.levels) leaves made.levels_are);
      clocks_are = made.clocks;
    }
