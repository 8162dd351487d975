use Rattle.std.proofs.Common.{◌++◌, ◌∷◌, [], ap, sym, ◌∙◌, map, take, arith}
use Rattle.clock_phase.specs.Levels.{clock_of}
use Rattle.clock_phase.proofs.Greatest.{at_most_greatest}
use Rattle.clock_phase.proofs.PlanTrees.{map_one_more, one_clock_more, trees_stay}
use Rattle.clock_phase.proofs.clocks.set_clocks.Goals as goal

pub clock_of_level-plan-requires-clause-within : goal.clock_of_level-plan-requires-clause-within
clock_of_level-plan-requires-clause-within c = let most = at_most_greatest c.args.levels.now c.loop-k.k in omega (arith, most, c.greatest_of-top.ensures)

pub loop-k-preserved : goal.loop-k-preserved
loop-k-preserved c = record {
  trees = trees_stay c.loop-k.plans c.loop-k.k c.index-plans-k.result c.clock_of_level-plan.result ∙ c.loop-k.invariant.trees;
  clocks = one_clock_more c.loop-k.plans c.loop-k.k _ (omega (arith, c.loop-k-test.true, c.loop-k.auto.plans))
      ∙ ap (λ front. front ++ c.clock_of_level-plan.result ∷ []) c.loop-k.invariant.clocks
      ∙ ap (λ n. map (clock_of c.args.phases c.greatest_of-top.result) (take c.loop-k.k c.args.levels.now) ++ n ∷ []) c.clock_of_level-plan.ensures
      ∙ sym (map_one_more (clock_of c.args.phases c.greatest_of-top.result) c.args.levels.now c.loop-k.k (omega (arith, c.loop-k-test.true, c.loop-k.auto.plans, c.requires.one_each)));
}
