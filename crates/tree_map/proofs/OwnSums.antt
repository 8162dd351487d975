-- The least sum of a pair, and what the pair adds where it is cut.
use Rattle.std.proofs.Common.{◌≡◌, refl, sym, ap, subst, ◌∙◌, ℕ, ◌+◌, ◌≤◌, ◌^◌, List, length, map, Option, Some, None, option_map, le_antisymm, ◌*◌, arith}
use Rattle.std.specs.Prelude.{IfSome, MatchOption}
use Rattle.cover_plan.specs.Covers.{Costs}
use Rattle.cover_plan.specs.CoverTables.{Entry, combined, lower_both, lowest, split_cost, table_within}
use Rattle.cover_plan.specs.Parts.{Operator}
use Rattle.cover_plan.proofs.Sums.{joined-is}
use Rattle.cover_plan.proofs.Tables.{best_reached, lowest_below, lowest_reached, table_best}
use Rattle.gate_decompose.proofs.Among.{among_flattened, among_mapped}
use Rattle.tree_map.specs.CoverRows.{AreFewCosts, AreSmall, IsRow, cut_number, joined_entry, sum_or_zero}
use Rattle.tree_map.specs.CoverSums.{SumsData, sum_at, with_row}
use Rattle.tree_map.specs.Offers.{HasSums, IsLeastSum}
use Rattle.tree_map.proofs.PlanCovers.{series_most}
use Rattle.tree_map.proofs.TabledRows.{AreSumsIn, new_row}

-- the least sum of a pair whose sums are these entries
own_lowest : (t : SumsData) (place : ℕ) (es : List Entry) → AreSumsIn t place es → (o : Option ℕ) → MatchOption o (HasSums (sum_at t place) → ⊥) (IsLeastSum (sum_at t place)) → o ≡ lowest es
own_lowest t place es are None none = by (lowest es) (λ n e. e)
  where
    by : (low : Option ℕ) → ((n : ℕ) → low ≡ Some n → lowest es ≡ Some n) → None ≡ low
    by None is = refl
    by (Some n) is = absurd (let x = lowest_reached es n (is n refl) in none ((x.0).shape, (x.0).sum, (are x.0).1 x.1))
own_lowest t place es are (Some n) ((shape, here), least) =
    let low = lowest_below es (record { shape = shape; sum = n }) ((are (record { shape = shape; sum = n })).0 here) in
    let x = lowest_reached es low.0 low.1 in
    let le = least (x.0).shape (x.0).sum ((are x.0).1 x.1) in
    ap Some (le_antisymm (omega (arith, le, x.2)) low.2) ∙ sym low.1

-- the least sum of small entries is small
pub lowest_few : (es : List Entry) → AreSmall es → (n : ℕ) → lowest es ≡ Some n → n ≤ 2 ^ 30
lowest_few es small n e = let x = lowest_reached es n e in omega (arith, x.2, (small x.0 x.1).few)

module _ (t : SumsData) (row : List ℕ) (op : Operator) (ls rs : List Entry) (count : length t.sums ≡ length t.cuts * (t.w * t.h)) (is : IsRow t.w t.h (combined t.costs op ls rs) row) where
  pub own_is : (o : Option ℕ) → MatchOption o (HasSums (sum_at (with_row t row) (length t.cuts)) → ⊥) (IsLeastSum (sum_at (with_row t row) (length t.cuts)))
      → o ≡ lowest (table_within t.w t.h (combined t.costs op ls rs))
  own_is o least =
      own_lowest (with_row t row) (length t.cuts) (table_within t.w t.h (combined t.costs op ls rs))
      (new_row t row (length t.cuts) count (combined t.costs op ls rs) (combined t.costs op ls rs) is (λ shape. refl)) o least

  -- it leaves room for the cost of a cell
  pub own_few : AreFewCosts t.costs → AreSmall ls → AreSmall rs → (o : Option ℕ)
      → MatchOption o (HasSums (sum_at (with_row t row) (length t.cuts)) → ⊥) (IsLeastSum (sum_at (with_row t row) (length t.cuts))) → IfSome o (λ sum. sum ≤ 2 ^ 31 + 10)
  own_few few left right None least = tt
  own_few few left right (Some n) least =
      let es = combined t.costs op ls rs in
      let low = lowest_reached (table_within t.w t.h es) n (sym (own_is (Some n) least)) in
      let found = best_reached es (low.0).shape (low.0).sum (table_best t.w t.h es low.0 low.1).1 in
      let p = among_flattened (λ a. map (joined_entry t.costs op a) rs) found.0 ls found.1 in
      let q = among_mapped (joined_entry t.costs op p.0) found.0 rs p.2 in
      let sum : (joined_entry t.costs op p.0 q.0).sum ≡ (found.0).sum = ap (λ (e : Entry). e.sum) {x = joined_entry t.costs op p.0 q.0} q.2 in
      omega (arith, sum, joined-is t.costs op (p.0).sum (q.0).sum, series_most t.costs op, few.few_simple, (left p.0 p.1).few, (right q.0 q.1).few, found.3, low.2)

  -- the same as code has it
  module _ (s : SumsData) (place : ℕ) (same : s ≡ with_row t row) (at : place ≡ length t.cuts) (o : Option ℕ) (least : MatchOption o (HasSums (sum_at s place) → ⊥) (IsLeastSum (sum_at s place))) where
    least_at : MatchOption o (HasSums (sum_at (with_row t row) (length t.cuts)) → ⊥) (IsLeastSum (sum_at (with_row t row) (length t.cuts)))
    least_at =
        subst (λ u. MatchOption o (HasSums (sum_at u (length t.cuts)) → ⊥) (IsLeastSum (sum_at u (length t.cuts)))) same
        (subst (λ p. MatchOption o (HasSums (sum_at s p) → ⊥) (IsLeastSum (sum_at s p))) at least)

    pub few_at : AreFewCosts t.costs → AreSmall ls → AreSmall rs → IfSome o (λ sum. sum ≤ 2 ^ 31 + 10)
    few_at few left right = own_few few left right o least_at

    -- what the pair adds where it is cut
    pub cut_is : (c : Costs) → c ≡ s.costs → (n : ℕ) → n ≡ sum_or_zero (option_map (λ n. 1 + n) (lower_both (option_map (λ n. n + c.simple) o) (split_cost c op ls rs)))
        → n ≡ cut_number t.costs t.w t.h op ls rs
    cut_is c costs n is =
        is
        ∙ ap (λ (d : Costs). sum_or_zero (option_map (λ n. 1 + n) (lower_both (option_map (λ n. n + d.simple) o) (split_cost d op ls rs)))) (costs ∙ ap (λ (u : SumsData). u.costs) same)
        ∙ ap (λ (x : Option ℕ). sum_or_zero (option_map (λ n. 1 + n) (lower_both (option_map (λ n. n + t.costs.simple) x) (split_cost t.costs op ls rs)))) (own_is o least_at)
