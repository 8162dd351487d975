-- The trees of decided pairs are those of the chosen plan.
use Rattle.std.proofs.Common.{subst, ℕ, Bool, List}
use Rattle.std.specs.List.{AllZip}
use Rattle.dom_base.proofs.Lists.{AllZip-one}
use Rattle.sp_network.specs.Tree.{Tree}
use Rattle.dual_rail.specs.ForestData.{ForestData}
use Rattle.tree_map.specs.LeastPlans.{IsChosenPlan}
use Rattle.tree_map.specs.Plans.{IsTreeOf, roots}
use Rattle.tree_map.proofs.PlanOne.{tree_one}

pub decided_cover : (forest : ForestData) (w h : ℕ) (kept : List Bool) (some trees : List (Tree ℕ)) → IsChosenPlan forest w h kept some
    → AllZip (IsTreeOf forest kept) (roots kept) trees → IsChosenPlan forest w h kept trees
decided_cover forest w h kept some trees chosen are =
    subst (IsChosenPlan forest w h kept) (AllZip-one (IsTreeOf forest kept) (λ p s t x y. tree_one forest kept p s t x y) (roots kept) some trees chosen.plan.trees_are are) chosen
