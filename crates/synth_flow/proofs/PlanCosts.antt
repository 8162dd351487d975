-- What a plan costs in a style, by its pairs and cells.
use Rattle.std.proofs.Common.{◌≡◌, ℕ, ◌+◌, ◌*◌, ◌≤◌, Bool, true, false, cond, not, List, [], ◌∷◌, length, filter, count_by, refl, ap, arith}
use Rattle.std.specs.List.{range_with_len}
use Rattle.std.proofs.lemmas.List.FromFn.{length-range_with_len}
use Rattle.std.proofs.lemmas.List.Sums.{sum_by-cons}
use Rattle.domino_cell.specs.declared.style.Style.{Style}
use Rattle.domino_cell.specs.declared.style.Style.TheVariants.{Keeper as WithKeeper, Precharge as WithPrecharge}
use Rattle.dual_rail.specs.ForestData.{ForestData}
use Rattle.dual_rail.specs.ForestOrder.{AreInOrder}
use Rattle.dual_rail.specs.declared.forest.Pair.{Pair}
use Rattle.sp_network.specs.Tree.{Tree}
use Rattle.style_costs.specs.Styles.{cost_in, is_series, kept_edges}
use Rattle.style_costs.proofs.StyledCosts.{keeper_cost, precharge_cost}
use Rattle.tree_map.specs.Plans.{IsPlan, is_kept, roots}
use Rattle.synth_flow.specs.SummaryParts.{cost_of_plan}

-- those that pass a test, and those that don't
parted : (test : ℕ → Bool) (ns : List ℕ) → count_by test ns + length (filter (λ n. not (test n)) ns) ≡ length ns
parted test [] = refl
parted test (n ∷ ns) = by (test n) (sum_by-cons (λ m. cond (test m) 1 0) n ns) (parted test ns)
  where
    rest : List ℕ
    rest = filter (λ m. not (test m)) ns

    by : (b : Bool) → count_by test (n ∷ ns) ≡ cond b 1 0 + count_by test ns → count_by test ns + length rest ≡ length ns
        → count_by test (n ∷ ns) + length (cond (not b) (n ∷ rest) rest) ≡ length (n ∷ ns)
    by true h k = omega (arith, h, k)
    by false h k = omega (arith, h, k)

few_series : (pairs : List Pair) → count_by is_series pairs ≤ length pairs
few_series [] = omega arith
few_series (pair ∷ pairs) = by (is_series pair) (sum_by-cons (λ x. cond (is_series x) 1 0) pair pairs) (few_series pairs)
  where
    by : (b : Bool) → count_by is_series (pair ∷ pairs) ≡ cond b 1 0 + count_by is_series pairs → count_by is_series pairs ≤ length pairs
        → count_by is_series (pair ∷ pairs) ≤ length (pair ∷ pairs)
    by true h k = omega (arith, h, k)
    by false h k = omega (arith, h, k)

module _ (forest : ForestData) (kept : List Bool) (w h : ℕ) (trees : List (Tree ℕ)) (plan : IsPlan forest w h kept trees) (order : AreInOrder forest.pairs) where
  -- a pair is kept, or the root of a cell
  roots_count : kept_edges forest kept + length (roots kept) ≡ length forest.pairs
  roots_count =
      let all = parted (is_kept kept) (range_with_len 0 (length forest.pairs)) in
      let same = ap (λ n. length (filter (λ place. not (is_kept kept place)) (range_with_len 0 n))) plan.one_each in
      omega (arith, all, same, length-range_with_len 0 (length forest.pairs))

  pub cost_is : (style : Style) → cost_of_plan style forest.pairs (length (roots kept)) ≡ cost_in style trees
  cost_is WithKeeper = omega (arith, keeper_cost forest w h kept trees order plan, roots_count)
  cost_is WithPrecharge = omega (arith, precharge_cost forest w h kept trees order plan, roots_count)

  pub cost_at_most : (style : Style) → cost_in style trees ≤ 7 * length forest.pairs
  cost_at_most WithKeeper = omega (arith, keeper_cost forest w h kept trees order plan, roots_count)
  cost_at_most WithPrecharge = omega (arith, precharge_cost forest w h kept trees order plan, roots_count, few_series forest.pairs)
