-- What an ordinary plan costs, by how many edges it keeps: two leaves and a cell for each pair, and the node of each series pair, less a
-- leaf and a cell for each kept edge.
use Rattle.std.proofs.Common.{◌≡◌, inl, inr, refl, sym, ◌∙◌, ℕ, ◌+◌, ◌*◌, ◌<◌, Bool, true, false, cond, List, length, map, Option, Some, None, slice_get, arith}
use Rattle.std.proofs.Math.Nat.{mul-one, mul-zero}
use Rattle.std.proofs.lemmas.Option.{slice_get_cases}
use Rattle.sp_network.specs.Tree.{Tree}
use Rattle.dual_rail.specs.declared.forest.Arm.{Arm}
use Rattle.dual_rail.specs.declared.forest.Arm.TheVariants.{Literal, Pair as pair_arm}
use Rattle.dual_rail.specs.declared.forest.Pair.{Pair}
use Rattle.dual_rail.specs.ForestData.{ForestData}
use Rattle.dual_rail.specs.ForestOrder.{AreInOrder}
use Rattle.dual_rail.specs.Forests.{left_arm, right_arm}
use Rattle.cover_plan.specs.Covers.{Costs}
use Rattle.cover_plan.specs.Parts.{InParallel, InSeries, Operator}
use Rattle.cover_plan.proofs.Sums.{series_of}
use Rattle.compound_plan.specs.OrdinaryPlans.{IsPlan}
use Rattle.compound_plan.specs.PlanParts.{operator_of}
use Rattle.compound_plan.specs.PlanTrees.{cost_by, is_kept}
use Rattle.compound_plan.specs.Plans.{Simple}
use Rattle.compound_plan.proofs.OrdinaryPlans.{no_marks, same_cost, to_plan, unmarked}
use Rattle.compound_plan.proofs.PlanCosts.{arm_leaf, own_cost, pair_part, plan_cost}
use Rattle.compound_plan.proofs.Tallies.{arm_value, arms_once, arms_value}
use Rattle.compound_plan.proofs.Totals.{total, total_add, total_constant, total_parts, total_same, total_times}

-- 1 for a series pair
abbrev pub in_series : Operator → ℕ
in_series InSeries = 1
in_series InParallel = 0

abbrev pub series_at : Option Pair → ℕ
series_at None = 0
series_at (Some pair) = in_series (operator_of pair)

-- how many edges are kept, and how many pairs are series
abbrev pub kept_total : ForestData → List Bool → ℕ
kept_total forest kept = total (λ p. cond (is_kept kept p) 1 0) 0 (length forest.pairs)

abbrev pub series_total : ForestData → ℕ
series_total forest = total (λ p. series_at (slice_get forest.pairs p)) 0 (length forest.pairs)

module _ (c : Costs) (forest : ForestData) (kept : List Bool) (order : AreInOrder forest.pairs) where
  leaf_of : Arm → ℕ
  leaf_of = arm_leaf c forest kept (no_marks kept) order

  one_leaf : (arm : Arm) → leaf_of arm + arm_value (λ q. cond (is_kept kept q) 1 0) arm ≡ 1
  unfolding leaf_of
  one_leaf (Literal rail) = refl
  one_leaf (pair_arm place) = by (is_kept kept place)
    where
      by : (b : Bool) → cond b 0 1 + cond b 1 0 ≡ 1
      by true = refl
      by false = refl

  node : (op : Operator) → series_of c op ≡ c.series * in_series op
  node InSeries = sym (mul-one c.series)
  node InParallel = sym (mul-zero c.series)

  -- what a pair adds, with its arms that are kept
  pair_adds : (p : ℕ) (pair : Pair) → slice_get forest.pairs p ≡ Some pair
      → pair_part c forest kept (no_marks kept) order (slice_get forest.pairs p) + arms_value (λ q. cond (is_kept kept q) 1 0) (slice_get forest.pairs p)
      ≡ c.series * series_at (slice_get forest.pairs p) + 2
  unfolding leaf_of
  pair_adds p pair e =
      rw e (let l = one_leaf (left_arm pair) in let r = one_leaf (right_arm pair) in let n = node (operator_of pair) in omega (arith, l, r, n))

  pub ordinary_cost : c.splits ≡ false → (w h : ℕ) (trees : List (Tree ℕ)) → IsPlan forest w h kept trees
      → cost_by c trees + (c.simple * kept_total forest kept + kept_total forest kept) ≡ c.simple * length forest.pairs + 2 * length forest.pairs + c.series * series_total forest
  ordinary_cost none w h trees plan =
      let n = length forest.pairs in
      let k = is_kept kept in
      let own = own_cost c forest kept (no_marks kept) order in
      let part : ℕ → ℕ = λ p. pair_part c forest kept (no_marks kept) order (slice_get forest.pairs p) in
      let arms : ℕ → ℕ = λ p. arms_value (λ q. cond (k q) 1 0) (slice_get forest.pairs p) in
      let whole : cost_by c trees ≡ total own 0 n =
      sym (same_cost c trees) ∙ plan_cost c forest kept (no_marks kept) order w h (map Simple trees) (to_plan c none forest w h kept trees plan) in
      let split : total own 0 n ≡ total (λ p. cond (k p) 0 c.simple) 0 n + total part 0 n =
      total_same own (λ p. cond (k p) 0 c.simple + part p) 0 n (λ p low high. rw (unmarked kept p) refl) ∙ total_add (λ p. cond (k p) 0 c.simple) part 0 n in
      let cells : total (λ p. c.simple) 0 n ≡ total (λ p. cond (k p) c.simple 0) 0 n + total (λ p. cond (k p) 0 c.simple) 0 n = total_parts k (λ p. c.simple) 0 n in
      let all_cells = total_constant c.simple 0 n in
      let kept_cells : total (λ p. cond (k p) c.simple 0) 0 n ≡ c.simple * kept_total forest kept =
      total_same (λ p. cond (k p) c.simple 0) (λ p. c.simple * cond (k p) 1 0) 0 n (λ p low high. times (k p)) ∙ total_times c.simple (λ p. cond (k p) 1 0) 0 n in
      let pairs : total part 0 n + total arms 0 n ≡ total (λ p. c.series * series_at (slice_get forest.pairs p)) 0 n + total (λ p. 2) 0 n =
      sym (total_add part arms 0 n)
      ∙ total_same (λ p. part p + arms p) (λ p. c.series * series_at (slice_get forest.pairs p) + 2) 0 n (λ p low high. each p (omega arith))
      ∙ total_add (λ p. c.series * series_at (slice_get forest.pairs p)) (λ p. 2) 0 n in
      let nodes = total_times c.series (λ p. series_at (slice_get forest.pairs p)) 0 n in
      let twos = total_constant 2 0 n in
      let edges : total arms 0 n ≡ kept_total forest kept = arms_once forest.pairs order k (λ p. 1) (λ q lt e. (plan.free q e).0) (λ q. 1) in
      omega (arith, whole, split, cells, all_cells, kept_cells, pairs, nodes, twos, edges)
    where
      times : (b : Bool) → cond b c.simple 0 ≡ c.simple * cond b 1 0
      times true = sym (mul-one c.simple)
      times false = sym (mul-zero c.simple)

      each : (p : ℕ) → p < length forest.pairs
          → pair_part c forest kept (no_marks kept) order (slice_get forest.pairs p) + arms_value (λ q. cond (is_kept kept q) 1 0) (slice_get forest.pairs p)
          ≡ c.series * series_at (slice_get forest.pairs p) + 2
      each p lt =
          elim (slice_get_cases forest.pairs p).1 [
            | inl found ↦ pair_adds p found.0 found.2
            | inr past ↦ absurd (omega (arith, past.0))
          ]
