-- The trees of a plan have the values of their roots.
use Rattle.std.proofs.Common.{◌≡◌, sym, ap₂, ◌∙◌, ℕ, Bool, ◌&&◌, ◌||◌, List}
use Rattle.dom_base.proofs.Bools.{cond_and, cond_or}
use Rattle.sp_network.specs.Tree.{Tree, Leaf, Series, Parallel, joins}
use Rattle.dual_rail.specs.declared.forest.Arm.{Arm}
use Rattle.dual_rail.specs.declared.forest.Pair.TheVariants.{And, Or}
use Rattle.dual_rail.specs.ForestData.{ForestData}
use Rattle.dual_rail.specs.ForestOrder.{HasLeaves, ReadsLeaves}
use Rattle.dual_rail.specs.ForestValues.{ArePairValues, arm_bit}
use Rattle.compound_plan.specs.PlanTrees.{IsArmTree, literal, cut, series, parallel, IsTreeOf}
use Rattle.compound_plan.specs.PlanValues.{AreGateValues, TreesHaveValues}

module _ (forest : ForestData) (kept : List Bool) (leaf_bit pair gate_bit : ℕ → Bool) (leaves : HasLeaves forest) (pairs : ArePairValues forest leaf_bit pair)
    (gates : AreGateValues forest kept leaf_bit pair gate_bit) where
  tree_value : {arm : Arm} {tree : Tree ℕ} → ReadsLeaves forest.leaves arm → IsArmTree forest kept arm tree → joins gate_bit tree ≡ arm_bit leaf_bit pair arm
  tree_value low (literal {rail = rail}) = gates.rails rail low
  tree_value low (cut {place = p} k) = gates.outputs p k
  tree_value low (series {place = p} {a = a} {b = b} {l = l} {r = r} k e x y) =
      let h = leaves p (And a b) e in
      cond_and (joins gate_bit l) (joins gate_bit r) ∙ ap₂ (λ u v. u && v) (tree_value h.0 x) (tree_value h.1 y) ∙ sym (pairs p (And a b) e)
  tree_value low (parallel {place = p} {a = a} {b = b} {l = l} {r = r} k e x y) =
      let h = leaves p (Or a b) e in
      cond_or (joins gate_bit l) (joins gate_bit r) ∙ ap₂ (λ u v. u || v) (tree_value h.0 x) (tree_value h.1 y) ∙ sym (pairs p (Or a b) e)

  root_value : (p : ℕ) (tree : Tree ℕ) → IsTreeOf forest kept p tree → joins gate_bit tree ≡ pair p
  root_value p (Leaf g) t = absurd t
  root_value p (Series l r) (a, b, e, x, y) =
      let h = leaves p (And a b) e in
      cond_and (joins gate_bit l) (joins gate_bit r) ∙ ap₂ (λ u v. u && v) (tree_value h.0 x) (tree_value h.1 y) ∙ sym (pairs p (And a b) e)
  root_value p (Parallel l r) (a, b, e, x, y) =
      let h = leaves p (Or a b) e in
      cond_or (joins gate_bit l) (joins gate_bit r) ∙ ap₂ (λ u v. u || v) (tree_value h.0 x) (tree_value h.1 y) ∙ sym (pairs p (Or a b) e)

pub trees_have_values : TreesHaveValues
trees_have_values = λ forest kept leaf_bit pair gate_bit leaves pairs gates p tree t. root_value forest kept leaf_bit pair gate_bit leaves pairs gates p tree t
