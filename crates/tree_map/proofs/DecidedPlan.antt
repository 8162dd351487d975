-- Shapes that the ties decide, pair by pair, make the chosen plan.
use Rattle.std.proofs.Common.{◌≡◌, sym, subst, ap₂, ◌∙◌, ℕ, ◌≤◌, ◌<◌, Bool, true, false, List, length, Some, slice_get, get_or, arith}
use Rattle.std.proofs.lemmas.Option.{slice_get-get_or, slice_get_within}
use Rattle.compound_plan.specs.Plans.{CellTrees, IsChosenPlan as IsChosenPlanAt, IsDecided as IsDecidedAt}
use Rattle.compound_plan.proofs.PlanShapes as general
use Rattle.dual_rail.specs.declared.forest.Pair.{Pair}
use Rattle.cover_plan.specs.Parts.{TreeShape, joined_shape, leaf_shape}
use Rattle.cover_plan.specs.Covers.{Costs, ordinary_costs}
use Rattle.dual_rail.specs.ForestData.{ForestData}
use Rattle.dual_rail.specs.ForestOrder.{AreInOrder}
use Rattle.dual_rail.specs.Forests.{left_arm, right_arm}
use Rattle.tree_map.specs.LeastPlans.{IsDecided, operator_of}
use Rattle.tree_map.specs.PlanShapes.{AreShapes, DecidedMakesPlan}
use Rattle.tree_map.specs.Plans.{IsFree, is_kept}
use Rattle.compound_plan.proofs.PlanParts.{taken_shape}
use Rattle.tree_map.proofs.PlanShapes.{plan_there}

pub decided_plan : DecidedMakesPlan
decided_plan = λ forest w h kept shapes order one_each same_length free decided.
    let are : AreShapes forest w h kept (λ p. get_or shapes p leaf_shape) = λ place pair e.
    shaped forest w h kept shapes order one_each same_length free decided place pair e in
    let plan = plan_there forest w h kept (λ p. get_or shapes p leaf_shape) order one_each free are in
    (plan.0, record { plan = plan.1; shapes = shapes; one_each = same_length; decided = decided })
  where
    shaped : (forest : ForestData) (w h : ℕ) (kept : List Bool) (shapes : List TreeShape) → AreInOrder forest.pairs → length kept ≡ length forest.pairs → length shapes ≡ length forest.pairs
        → ((place : ℕ) → is_kept kept place ≡ true → IsFree forest place)
        → ((place : ℕ) (pair : Pair) (shape : TreeShape) → slice_get forest.pairs place ≡ Some pair → slice_get shapes place ≡ Some shape → IsDecided forest w h kept shapes place pair shape)
        → AreShapes forest w h kept (λ p. get_or shapes p leaf_shape)
    shaped forest w h kept shapes order one_each same_length free decided place pair e =
        let lt = slice_get_within forest.pairs place pair e in
        let at = slice_get-get_or shapes place leaf_shape (omega arith) in
        let d = decided place pair (get_or shapes place leaf_shape) e at in
        let g = d.first.give in
        let left = taken_shape ordinary_costs forest w h kept shapes free (left_arm pair) d.l d.left g.left_shape g.left_sum d.takes_left g.is_left in
        let right = taken_shape ordinary_costs forest w h kept shapes free (right_arm pair) d.r d.right g.right_shape g.right_sum d.takes_right g.is_right in
        (sym g.shape_is ∙ ap₂ (joined_shape (operator_of pair)) left right, g.least.reached.fits)

-- the same at costs and bounds that are those, with compound roots
pub decided_at : (c d : Costs) (forest : ForestData) (v g w h : ℕ) (kept split : List Bool) (shapes : List TreeShape) → d ≡ c → v ≡ w → g ≡ h → 1 ≤ v → 1 ≤ g → AreInOrder forest.pairs
    → length kept ≡ length forest.pairs → length split ≡ length forest.pairs → length shapes ≡ length forest.pairs → ((place : ℕ) → is_kept kept place ≡ true → IsFree forest place)
    → ((place : ℕ) → is_kept split place ≡ true → (is_kept kept place ≡ false) × (place < length forest.pairs))
    → ((place : ℕ) (pair : Pair) (shape : TreeShape) → slice_get forest.pairs place ≡ Some pair → slice_get shapes place ≡ Some shape → IsDecidedAt d forest v g kept split shapes place pair shape)
    → (cells : List CellTrees) × IsChosenPlanAt c forest w h kept split cells
decided_at c d forest v g w h kept split shapes costs width height wide tall order one_each mark_each same_length free marked decided =
    subst (λ e. (cells : List CellTrees) × IsChosenPlanAt e forest w h kept split cells) costs
    (subst (λ n. (cells : List CellTrees) × IsChosenPlanAt d forest n h kept split cells) width
    (subst (λ n. (cells : List CellTrees) × IsChosenPlanAt d forest v n kept split cells) height
    (general.decided_plan d forest v g wide tall kept split shapes order one_each mark_each same_length free marked decided)))
