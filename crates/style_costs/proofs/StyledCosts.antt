-- What a plan costs in each style, and that both styles choose alike.
use Rattle.std.proofs.Common.{◌≡◌, inl, inr, refl, sym, ap, ◌∙◌, ℕ, zero, suc, ◌+◌, ◌*◌, ◌≤◌, Bool, cond, false, List, [], ◌∷◌, length, Some, slice_get, sum_by, count_by, arith}
use Rattle.std.specs.List.{range_with_len}
use Rattle.std.proofs.Math.Nat.{mul-le-mul_left}
use Rattle.std.proofs.lemmas.List.Sums.{sum_by-cons}
use Rattle.sp_network.specs.Tree.{Tree}
use Rattle.dual_rail.specs.declared.forest.Pair.{Pair}
use Rattle.dual_rail.specs.declared.forest.Pair.TheVariants.{And, Or}
use Rattle.dual_rail.specs.ForestData.{ForestData}
use Rattle.dual_rail.specs.ForestOrder.{AreInOrder}
use Rattle.domino_cell.specs.declared.style.Style.{Style}
use Rattle.domino_cell.specs.declared.style.Style.TheVariants.{Keeper as WithKeeper, Precharge as WithPrecharge}
use Rattle.compound_plan.proofs.OrdinaryCosts.{kept_total, ordinary_cost, series_at}
use Rattle.compound_plan.proofs.Totals.{total, total_shift}
use Rattle.cover_plan.specs.Covers.{Costs, ordinary_costs}
use Rattle.dom_base.proofs.Decided.{lt_or_ge}
use Rattle.tree_map.specs.Plans.{IsLeastPlanBy, IsPlan, is_kept}
use Rattle.style_costs.specs.StyledCovers.{ChosenPlanIsSame, LeastPlansAreSame}
use Rattle.style_costs.specs.Styles.{cost_in, costs_of, is_series, kept_edges}
use Rattle.style_costs.proofs.AlikeCosts.{chosen_to}

-- a count over consecutive numbers is a total
sum_total : (f : ℕ → ℕ) (a n : ℕ) → sum_by f (range_with_len a n) ≡ total f a n
sum_total f a zero = refl
sum_total f a (suc n) = sum_by-cons f a (range_with_len (a + 1) n) ∙ ap (λ m. f a + m) (sum_total f (a + 1) n)

edges_are : (forest : ForestData) (kept : List Bool) → kept_edges forest kept ≡ kept_total forest kept
edges_are forest kept = sum_total (λ p. cond (is_kept kept p) 1 0) 0 (length forest.pairs)

-- 1 for a series pair
one_series : (pair : Pair) → series_at (Some pair) ≡ cond (is_series pair) 1 0
one_series (And a b) = refl
one_series (Or a b) = refl

series_are : (pairs : List Pair) → total (λ p. series_at (slice_get pairs p)) 0 (length pairs) ≡ count_by is_series pairs
series_are [] = refl
series_are (pair ∷ pairs) =
    ap (λ n. series_at (Some pair) + n) (total_shift (λ p. series_at (slice_get (pair ∷ pairs) p)) 0 (length pairs) ∙ series_are pairs)
    ∙ ap (λ n. n + count_by is_series pairs) (one_series pair) ∙ sym (sum_by-cons (λ x. cond (is_series x) 1 0) pair pairs)

pub keeper_cost : (forest : ForestData) (w h : ℕ) (kept : List Bool) (trees : List (Tree ℕ)) → AreInOrder forest.pairs → IsPlan forest w h kept trees
    → cost_in WithKeeper trees + 6 * kept_edges forest kept ≡ 7 * length forest.pairs
keeper_cost forest w h kept trees order plan =
    let is = ordinary_cost (costs_of WithKeeper) forest kept order refl w h trees plan in
    let edges = edges_are forest kept in
    omega (arith, is, edges)

pub precharge_cost : (forest : ForestData) (w h : ℕ) (kept : List Bool) (trees : List (Tree ℕ)) → AreInOrder forest.pairs → IsPlan forest w h kept trees
    → cost_in WithPrecharge trees + 5 * kept_edges forest kept ≡ 6 * length forest.pairs + count_by is_series forest.pairs
precharge_cost forest w h kept trees order plan =
    let is = ordinary_cost (costs_of WithPrecharge) forest kept order refl w h trees plan in
    let edges = edges_are forest kept in
    let series = series_are forest.pairs in
    omega (arith, is, edges, series)

-- a plan costs less than another with one costs as with another, where neither has compound cells: the one that keeps more edges
least_to : (c d : Costs) → c.splits ≡ false → d.splits ≡ false → (forest : ForestData) (w h : ℕ) (kept : List Bool) (trees : List (Tree ℕ)) → AreInOrder forest.pairs
    → IsLeastPlanBy c forest w h kept trees → IsLeastPlanBy d forest w h kept trees
least_to c d none none' forest w h kept trees order l = record {
  plan = l.plan;
  least = λ other more plan.
      let here = ordinary_cost c forest kept order none w h trees l.plan in
      let there = ordinary_cost c forest other order none w h more plan in
      let here_in = ordinary_cost d forest kept order none' w h trees l.plan in
      let there_in = ordinary_cost d forest other order none' w h more plan in
      let le = l.least other more plan in
      let fewer = fewer_kept c.simple (kept_total forest other) (kept_total forest kept) (omega (arith, here, there, le)) in
      let times = mul-le-mul_left d.simple fewer in
      omega (arith, here_in, there_in, fewer, times);
}
  where
    fewer_kept : (s m n : ℕ) → s * m + m ≤ s * n + n → m ≤ n
    fewer_kept s m n le =
        elim (lt_or_ge n m) [
          | inl lt ↦ absurd (let more = mul-le-mul_left {m = n} {n = m} s (omega (arith, lt)) in omega (arith, le, lt, more))
          | inr ge ↦ ge
        ]

-- neither style has compound cells
pub no_splits : (style : Style) → (costs_of style).splits ≡ false
no_splits WithKeeper = refl
no_splits WithPrecharge = refl

-- the plans of least cost are the same
pub least_same : LeastPlansAreSame
least_same = λ style forest w h kept trees order. (
  least_to (costs_of style) ordinary_costs (no_splits style) refl forest w h kept trees order,
  least_to ordinary_costs (costs_of style) refl (no_splits style) forest w h kept trees order,
)

-- and the chosen one is
pub chosen_same : ChosenPlanIsSame
chosen_same = λ style forest w h kept trees. (
  chosen_to (costs_of style) ordinary_costs (no_splits style) refl forest w h kept trees,
  chosen_to ordinary_costs (costs_of style) refl (no_splits style) forest w h kept trees,
)
