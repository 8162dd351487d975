use Rattle.std.proofs.Common.{◌+◌, ◌∙◌, refl, ap, sym, subst, List}
use Rattle.std.specs.List.{AllZip}
use Rattle.sp_network.specs.TypedTree.{tree_of}
use Rattle.sp_network.specs.declared.plan.GatePlan.{GatePlan}
use Rattle.tree_map.specs.MappedCover.{HaveFirstClock, plan_trees}
use Rattle.tree_map.specs.Plans.{IsTreeOf}
use Rattle.tree_map.proofs.RootTrees.{first_clocks, items_kept, items_more, roots_before}
use Rattle.tree_map.proofs.trees.cells_of.Goals.{then-not-kept-place+in_ok-tree+in_ok-push, else-not-kept-place}
use Rattle.tree_map.proofs.trees.cells_of.Goals as goal

pub loop-place-preserved : goal.loop-place-preserved
loop-place-preserved c = record {
  trees = elim c.if-not-kept-place.branch [
    | then-not-kept-place+in_ok-tree+in_ok-push w ↦
        let pushed = ap (λ v. v.items) w.plans-is ∙ w.in_ok-push.ensures.items in
        subst (λ (plans : List GatePlan). AllZip (IsTreeOf c.args.forest.now c.args.kept.now) (roots_before c.args.kept.now (c.loop-place.place + 1)) (plan_trees plans)) (sym pushed)
        (items_more (IsTreeOf c.args.forest.now c.args.kept.now) (λ (p : GatePlan). tree_of p.tree) c.args.kept.now c.loop-place.place c.loop-place.plans.items (record { tree = w.in_ok-tree.tree; clock = 1 }) w.if-not-kept-place.true w.in_ok-tree.ensures c.loop-place.invariant.trees)
    | else-not-kept-place w ↦
        subst (λ (plans : List GatePlan). AllZip (IsTreeOf c.args.forest.now c.args.kept.now) (roots_before c.args.kept.now (c.loop-place.place + 1)) (plan_trees plans)) (sym (ap (λ v. v.items) w.plans-is))
        (items_kept (IsTreeOf c.args.forest.now c.args.kept.now) (λ (p : GatePlan). tree_of p.tree) c.args.kept.now c.loop-place.place c.loop-place.plans.items w.if-not-kept-place.false c.loop-place.invariant.trees)
  ];
  clocks = elim c.if-not-kept-place.branch [
    | then-not-kept-place+in_ok-tree+in_ok-push w ↦
        let pushed = ap (λ v. v.items) w.plans-is ∙ w.in_ok-push.ensures.items in
        subst HaveFirstClock (sym pushed) (first_clocks c.loop-place.plans.items (record { tree = w.in_ok-tree.tree; clock = 1 }) c.loop-place.invariant.clocks refl)
    | else-not-kept-place w ↦ subst HaveFirstClock (sym (ap (λ v. v.items) w.plans-is)) c.loop-place.invariant.clocks
  ];
}
