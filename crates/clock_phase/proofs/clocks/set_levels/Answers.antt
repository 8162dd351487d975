use Rattle.std.proofs.Common.{◌≡◌, ◌<◌, ◌+◌, ◌*◌, length, ap, subst, sym, ◌∙◌, arith}
use Rattle.std.proofs.lemmas.List.{length-map}
use Rattle.sp_network.specs.TypedTree.{tree_of}
use Rattle.sp_network.specs.declared.plan.GatePlan.{GatePlan}
use Rattle.clock_phase.specs.Plans.{trees_of}
use Rattle.clock_phase.proofs.Greatest.{each_leaf_weaker}
use Rattle.clock_phase.proofs.LevelsUpTo.{AreLevelsUpTo, all_levels, level_within, one_level_more}
use Rattle.clock_phase.proofs.PlanTrees.{tree_at}
use Rattle.clock_phase.proofs.clocks.set_levels.Goals as goal

pub greatest_level_read-level-requires-clause-there : goal.greatest_level_read-level-requires-clause-there
greatest_level_read-level-requires-clause-there c =
    let at = tree_at c.args.plans.now c.loop-k.k c.index-plans-k.result c.loop-k-test.true in
    each_leaf_weaker (λ gate. gate < 2 * c.args.leaves + c.loop-k.k) (λ gate. gate < 2 * c.args.leaves + length c.loop-k.levels)
    (λ gate lt. omega (arith, c.loop-k-test.true, c.loop-k.auto.levels, c.requires.one_each)) _ (c.requires.earlier c.loop-k.k _ at)

pub overflow_add-level : goal.overflow_add-level
overflow_add-level c =
    let at = tree_at c.args.plans.now c.loop-k.k c.index-plans-k.result c.loop-k-test.true in
    let most = level_within c.args.leaves (trees_of c.args.plans.now) c.loop-k.levels c.loop-k.k c.loop-k.invariant _ (c.requires.earlier c.loop-k.k _ at) in
    omega (arith, most, c.greatest_level_read-level.ensures, c.requires.room, c.loop-k-test.true)

pub loop-k-preserved : goal.loop-k-preserved
loop-k-preserved c =
    let at = tree_at c.args.plans.now c.loop-k.k c.index-plans-k.result c.loop-k-test.true in
    one_level_more c.args.leaves (trees_of c.args.plans.now) c.loop-k.levels c.loop-k.k _ _ c.requires.earlier c.loop-k.invariant
    (omega (arith, c.loop-k-test.true, c.loop-k.auto.levels, c.requires.one_each)) at (ap (λ n. 1 + n) c.greatest_level_read-level.ensures)

pub returns : goal.returns
returns c = record {
  levels =
      let len : length (trees_of c.args.plans.now) ≡ length c.args.plans.now = length-map c.args.plans.now (λ (p : GatePlan). tree_of p.tree) in
      let k_is : c.loop-k.k ≡ length (trees_of c.args.plans.now) = omega (arith, c.loop-k-test.false, c.loop-k.auto.k-end, len) in
      all_levels c.args.leaves (trees_of c.args.plans.now) c.loop-k.levels (c.loop-k.auto.levels ∙ c.requires.one_each ∙ sym len)
      (subst (AreLevelsUpTo c.args.leaves (trees_of c.args.plans.now) c.loop-k.levels) k_is c.loop-k.invariant);
}
