-- The first shape of least sum, as the numbers of a pair are read one by one.
use Rattle.std.proofs.Common.{◌≡◌, inl, inr, refl, sym, ap, subst, ◌∙◌, ℕ, ◌+◌, ◌*◌, ◌≤◌, ◌<◌, length, drop, Some, slice_get, arith}
use Rattle.std.proofs.lemmas.Bool.{cases_lt}
use Rattle.std.proofs.lemmas.List.{length-take}
use Rattle.std.proofs.lemmas.Option.{same_Some, slice_get_within}
use Rattle.cover_plan.specs.Parts.{Lower, TreeShape}
use Rattle.tree_map.specs.CoverRows.{IsShapeIn, row_index}
use Rattle.tree_map.specs.CoverSums.{SumsData, sum_at}
use Rattle.tree_map.specs.Offers.{HasSums, IsFirstShape}
use Rattle.tree_map.proofs.HadShapes.{sum_in}
use Rattle.tree_map.proofs.ReadRows.{IsBefore, index_order, row_gives, row_had, row_of, within_row}
use Rattle.tree_map.proofs.Rows.{index_shape}

before_lower : (a b : TreeShape) → IsBefore a b → Lower a b
before_lower a b (inl lt) = inl lt
before_lower a b (inr (same, lt)) = inr (same, omega arith)

-- the first of the least numbers before a place, and where it stands; 0 is none
pub record IsFirstBelow (t : SumsData) (place index first least : ℕ) : Type 0 where
  pub within : first ≤ index
  pub found : 0 < least → slice_get (row_of t place) first ≡ Some least
  pub low : (k n : ℕ) → k < index → slice_get (row_of t place) k ≡ Some n → 0 < n → (0 < least) × (least ≤ n)
  pub early : (k : ℕ) → k < index → slice_get (row_of t place) k ≡ Some least → first ≤ k

module _ (t : SumsData) (place : ℕ) where
  module _ (index first least sum : ℕ) (is : IsFirstBelow t place index first least) (at : slice_get (row_of t place) index ≡ Some sum) where
    here : (k n : ℕ) → k < index + 1 → index ≤ k → slice_get (row_of t place) k ≡ Some n → sum ≡ n
    here k n lt le e = same_Some sum n (sym at ∙ ap (slice_get (row_of t place)) (let same : index ≡ k = omega arith in same) ∙ e)

    pub first_found : 0 < sum → (0 < least → sum < least) → IsFirstBelow t place (index + 1) index sum
    first_found some less = record {
      within = omega arith;
      found = λ _. at;
      low = λ k n lt e pos. elim (cases_lt k index) [
        | inl old ↦ (let l = is.low k n old e pos in (some, omega (arith, l.1, less l.0)))
        | inr le ↦ (some, (let same = here k n lt le e in omega arith))
      ];
      early = λ k lt e. elim (cases_lt k index) [
        | inl old ↦ (let l = is.low k sum old e some in absurd (omega (arith, l.1, less l.0)))
        | inr le ↦ le
      ];
    }

    pub first_stays : (0 < sum → (0 < least) × (least ≤ sum)) → IsFirstBelow t place (index + 1) first least
    first_stays more = record {
      within = omega (arith, is.within);
      found = is.found;
      low = λ k n lt e pos. elim (cases_lt k index) [
        | inl old ↦ is.low k n old e pos
        | inr le ↦ (let same = here k n lt le e in let m = more (omega arith) in (m.0, omega (arith, m.1)))
      ];
      early = λ k lt e. elim (cases_lt k index) [
        | inl old ↦ is.early k old e
        | inr le ↦ omega (arith, is.within)
      ];
    }

  module _ (index first least : ℕ) (is : IsFirstBelow t place index first least) (all : length (row_of t place) ≤ index) where
    pub none_had : least ≡ 0 → HasSums (sum_at t place) → ⊥
    none_had none has =
        let h = row_had t place has.0 has.1 has.2 in
        let lt = within_row t place has.0 has.1 has.2 in
        let some = (is.low (row_index t.w has.0) has.1 (omega (arith, lt, all)) h.0 h.1).0 in
        omega arith

    module _ (some_least : 0 < least) where
      pub first_within : first < t.w * t.h
      first_within =
          let lt = slice_get_within (row_of t place) first least (is.found some_least) in
          let count = length-take (t.w * t.h) (drop (place * (t.w * t.h)) t.sums) in
          omega (arith, lt, count)

      pub first_sum : (s : TreeShape) → IsShapeIn t.w t.h s → row_index t.w s ≡ first → sum_at t place s ≡ Some least
      first_sum s in_ here = row_gives t place s least in_ (ap (slice_get (row_of t place)) here ∙ is.found some_least) some_least

      pub first_is : (s : TreeShape) → IsShapeIn t.w t.h s → row_index t.w s ≡ first → IsFirstShape (sum_at t place) s
      first_is s in_ here = record {
        sum = least;
        sum_is = first_sum s in_ here;
        least = λ other more e. (let h = row_had t place other more e in
            let lt = within_row t place other more e in (is.low (row_index t.w other) more (omega (arith, lt, all)) h.0 h.1).1);
        first = λ other e. (let h = row_had t place other least e in
            let lt = within_row t place other least e in
            by other (sum_in t place other least e) (is.early (row_index t.w other) (omega (arith, lt, all)) h.0));
      }
        where
          by : (other : TreeShape) → IsShapeIn t.w t.h other → first ≤ row_index t.w other → Lower s other
          by other in_other le =
              elim (cases_lt (row_index t.w s) (row_index t.w other)) [
                | inl lt ↦ before_lower s other (index_order t.w t.h s other in_ in_other lt)
                | inr ge ↦ (let same : s ≡ other = index_shape t.w t.h s other in_ in_other (omega (arith, here)) in subst (Lower s) same (inr (refl, omega arith)))
              ]
