use Rattle.std.proofs.Common.{◌+◌, ◌≡◌, ◌∙◌, ap, sym, subst, List}
use Rattle.std.specs.List.{AllZip}
use Rattle.std.proofs.lemmas.List.Elements.{All-push}
use Rattle.compound_plan.specs.CellPlans.{clock_of, trees_of}
use Rattle.compound_plan.specs.Plans.{IsCellOf}
use Rattle.compound_plan.specs.declared.cell_plan.CellPlan.{CellPlan}
use Rattle.tree_map.specs.CompoundCover.{HaveFirstClocks, cell_trees}
use Rattle.tree_map.proofs.RootTrees.{items_kept, items_more, roots_before}
use Rattle.tree_map.proofs.compound_cells.compound_cells_of.Goals.{then-not-kept-place+in_ok-plan+in_ok-push, else-not-kept-place}
use Rattle.tree_map.proofs.compound_cells.compound_cells_of.Goals as goal

pub loop-place-preserved : goal.loop-place-preserved
loop-place-preserved c = record {
  trees = elim c.if-not-kept-place.branch [
    | then-not-kept-place+in_ok-plan+in_ok-push w ↦
        let pushed = ap (λ v. v.items) w.plans-is ∙ w.in_ok-push.ensures.items in
        subst (λ (plans : List CellPlan). AllZip (IsCellOf c.args.forest.now c.args.kept.now c.args.split.now) (roots_before c.args.kept.now (c.loop-place.place + 1)) (cell_trees plans)) (sym pushed)
        (items_more (IsCellOf c.args.forest.now c.args.kept.now c.args.split.now) trees_of c.args.kept.now c.loop-place.place c.loop-place.plans.items w.in_ok-plan.plan w.if-not-kept-place.true
        w.in_ok-plan.ensures.trees c.loop-place.invariant.trees)
    | else-not-kept-place w ↦
        subst (λ (plans : List CellPlan). AllZip (IsCellOf c.args.forest.now c.args.kept.now c.args.split.now) (roots_before c.args.kept.now (c.loop-place.place + 1)) (cell_trees plans))
        (sym (ap (λ v. v.items) w.plans-is))
        (items_kept (IsCellOf c.args.forest.now c.args.kept.now c.args.split.now) trees_of c.args.kept.now c.loop-place.place c.loop-place.plans.items w.if-not-kept-place.false c.loop-place.invariant.trees)
  ];
  clocks = elim c.if-not-kept-place.branch [
    | then-not-kept-place+in_ok-plan+in_ok-push w ↦
        let pushed = ap (λ v. v.items) w.plans-is ∙ w.in_ok-push.ensures.items in
        subst HaveFirstClocks (sym pushed) (All-push (λ (p : CellPlan). clock_of p ≡ 1) c.loop-place.plans.items w.in_ok-plan.plan c.loop-place.invariant.clocks w.in_ok-plan.ensures.clock)
    | else-not-kept-place w ↦ subst HaveFirstClocks (sym (ap (λ v. v.items) w.plans-is)) c.loop-place.invariant.clocks
  ];
}
