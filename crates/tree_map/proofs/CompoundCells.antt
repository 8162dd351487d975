-- The cells of a cover with compound roots.
use Rattle.std.proofs.Common.{◌≡◌, refl, subst, ℕ, Bool, true, List, Some, slice_get, get_or, arith}
use Rattle.std.specs.List.{AllZip}
use Rattle.std.proofs.lemmas.Option.{slice_get-get_or, slice_get_within}
use Rattle.dom_base.proofs.Lists.{AllZip-one}
use Rattle.sp_network.specs.Tree.{Tree}
use Rattle.cover_plan.specs.Covers.{Costs, is_parallel, ordinary_costs}
use Rattle.cover_plan.specs.Parts.{leaf_shape}
use Rattle.cover_plan.proofs.Sums.{split_parallel}
use Rattle.dual_rail.specs.declared.forest.Pair.{Pair}
use Rattle.dual_rail.specs.declared.forest.Pair.TheVariants.{And, Or}
use Rattle.dual_rail.specs.ForestData.{ForestData}
use Rattle.dual_rail.specs.Forests.{left_arm, right_arm}
use Rattle.compound_plan.specs.PlanParts.{operator_of}
use Rattle.compound_plan.specs.PlanTrees.{IsArmTree, is_kept, roots}
use Rattle.compound_plan.specs.Plans.{CellTrees, Compound, IsCellOf, IsChosenPlan as IsChosenPlanAt}
use Rattle.compound_plan.proofs.OrdinaryPlans.{ordinary_plans_are_chosen}
use Rattle.compound_plan.proofs.PlanOne.{cell_one}
use Rattle.tree_map.specs.CompoundCover.{AreOrs}
use Rattle.tree_map.specs.LeastPlans.{IsChosenPlan}

-- at the ordinary costs the chosen plan is the ordinary one
pub ordinary_chosen : (forest : ForestData) (w h : ℕ) (kept split : List Bool) (cells : List CellTrees) → IsChosenPlanAt ordinary_costs forest w h kept split cells
    → (trees : List (Tree ℕ)) × IsChosenPlan forest w h kept trees
ordinary_chosen forest w h kept split cells is = let p = ordinary_plans_are_chosen.ordinary ordinary_costs forest w h kept split cells refl is in (p.0, p.2)

module _ (c : Costs) (forest : ForestData) (w h : ℕ) (kept split : List Bool) (cells : List CellTrees) (chosen : IsChosenPlanAt c forest w h kept split cells) where
  -- a compound root is an Or
  pub or_roots : AreOrs forest split
  or_roots place pair m at =
      let lt = slice_get_within forest.pairs place pair at in
      let d = chosen.decided place pair (get_or chosen.shapes place leaf_shape) at (slice_get-get_or chosen.shapes place leaf_shape (omega (arith, lt, chosen.one_each))) in
      (split_parallel c (operator_of pair) (d.compound m).may).1

  -- the cells of its roots are those of the plan
  pub chosen_cells : (more : List CellTrees) → AllZip (IsCellOf forest kept split) (roots kept) more → IsChosenPlanAt c forest w h kept split more
  chosen_cells more are =
      subst (IsChosenPlanAt c forest w h kept split) (AllZip-one (IsCellOf forest kept split) (λ p s t x y. cell_one forest kept split p s t x y) (roots kept) cells more chosen.plan.cells_are are) chosen

or_pair : (pair : Pair) → is_parallel (operator_of pair) ≡ true → pair ≡ Or (left_arm pair) (right_arm pair)
or_pair (And a b) e = absurd (cc)
or_pair (Or a b) e = refl

pub compound_cell : (forest : ForestData) (kept split : List Bool) (place : ℕ) (pair : Pair) (l r : Tree ℕ) → AreOrs forest split → is_kept split place ≡ true → slice_get forest.pairs place ≡ Some pair
    → IsArmTree forest kept (left_arm pair) l → IsArmTree forest kept (right_arm pair) r → IsCellOf forest kept split place (Compound l r)
compound_cell forest kept split place pair l r ors marked at left right =
    (marked, (left_arm pair, right_arm pair, subst (λ x. slice_get forest.pairs place ≡ Some x) (or_pair pair (ors place pair marked at)) at, left, right))
