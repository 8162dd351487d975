-- The numbers of a pair as they stand in its row.
use Rattle.std.proofs.Common.{◌≡◌, ◌⊎◌, inl, inr, refl, sym, ap, ◌∙◌, ℕ, zero, suc, ◌+◌, ◌*◌, ◌-◌, ◌<◌, List, [], ◌∷◌, length, drop, take, Option, Some, None, slice_get, arith}
use Rattle.std.proofs.Math.Nat.{mul-le-mul_right}
use Rattle.std.proofs.lemmas.Bool.{cases_lt}
use Rattle.std.proofs.lemmas.Option.{same_Some, slice_get_within}
use Rattle.cover_plan.specs.Parts.{TreeShape}
use Rattle.tree_map.specs.CoverRows.{IsShapeIn, row_index}
use Rattle.tree_map.specs.CoverSums.{SumsData, above_zero, sum_at}
use Rattle.tree_map.proofs.HadShapes.{sum_in}
use Rattle.tree_map.proofs.Rows.{index_in}
use Rattle.tree_map.proofs.SumReads.{above_zero-some, shape_had}

-- the numbers of a pair
abbrev pub row_of : SumsData → ℕ → List ℕ
row_of t place = take (t.w * t.h) (drop (place * (t.w * t.h)) t.sums)

-- what stands in a part of a list
front_get : {X : Type 0} (n k : ℕ) (xs : List X) → k < n → slice_get (take n xs) k ≡ slice_get xs k
front_get zero k xs lt = absurd (omega arith)
front_get (suc n) k [] lt = refl
front_get (suc n) zero (x ∷ xs) lt = refl
front_get (suc n) (suc k) (x ∷ xs) lt = front_get n k xs (omega arith)

part_get : {X : Type 0} (m n k : ℕ) (xs : List X) → k < n → slice_get (take n (drop m xs)) k ≡ slice_get xs (m + k)
part_get zero n k xs lt = let same : 0 + k ≡ k = omega arith in rw same (front_get n k xs lt)
part_get (suc m) n k [] lt = front_get n k [] lt
part_get (suc m) n k (x ∷ xs) lt = let same : suc m + k ≡ suc (m + k) = omega arith in rw same (part_get m n k xs lt)

-- a shape is lower, or of the same height and narrower
abbrev pub IsBefore : TreeShape → TreeShape → Type 0
IsBefore a b = (a.height < b.height) ⊎ ((a.height ≡ b.height) × (a.width < b.width))

-- shapes in the order of their places
pub index_order : (w h : ℕ) (a b : TreeShape) → IsShapeIn w h a → IsShapeIn w h b → row_index w a < row_index w b → IsBefore a b
index_order w h a b is_a is_b lt =
    elim (cases_lt a.height b.height) [
      | inl less ↦ inl less
      | inr le ↦ elim (cases_lt b.height a.height) [
        | inl less ↦ (let m = mul-le-mul_right {m = b.height} {n = a.height - 1} w (omega arith) in
            let n = mul-le-mul_right {m = b.height - 1 + 1} {n = b.height} w (omega (arith, is_b.tall)) in
            absurd (omega (arith, is_b.wide, is_b.broad, m, n)))
        | inr ge ↦ (let same : a.height ≡ b.height = omega arith in
            let rows : (a.height - 1) * w ≡ (b.height - 1) * w = ap (λ n. (n - 1) * w) same in
            inr (same, omega (arith, is_a.wide, is_b.wide, rows)))
      ]
    ]

above_zero-is : (o : Option ℕ) (n : ℕ) → above_zero o ≡ Some n → (o ≡ Some n) × (0 < n)
above_zero-is None n e = absurd (cc)
above_zero-is (Some zero) n e = absurd (cc)
above_zero-is (Some (suc m)) n e = (e, let same = same_Some (suc m) n e in omega arith)

module _ (t : SumsData) (place : ℕ) where
  -- the number of a shape stands at its place in the row
  sum_read : (s : TreeShape) → IsShapeIn t.w t.h s → sum_at t place s ≡ above_zero (slice_get (row_of t place) (row_index t.w s))
  sum_read s is = rw (shape_had t s is.tall is.high is.wide is.broad) (ap above_zero (sym (part_get (place * (t.w * t.h)) (t.w * t.h) (row_index t.w s) t.sums (index_in t.w t.h s is))))

  pub row_had : (s : TreeShape) (n : ℕ) → sum_at t place s ≡ Some n → (slice_get (row_of t place) (row_index t.w s) ≡ Some n) × (0 < n)
  row_had s n e = above_zero-is (slice_get (row_of t place) (row_index t.w s)) n (sym (sum_read s (sum_in t place s n e)) ∙ e)

  pub row_gives : (s : TreeShape) (n : ℕ) → IsShapeIn t.w t.h s → slice_get (row_of t place) (row_index t.w s) ≡ Some n → 0 < n → sum_at t place s ≡ Some n
  row_gives s n is at some = sum_read s is ∙ sym (above_zero-some (slice_get (row_of t place) (row_index t.w s)) n at some)

  -- a place whose number is 0 has no shape
  pub none_at : (index : ℕ) (s : TreeShape) (n : ℕ) → slice_get (row_of t place) index ≡ Some 0 → sum_at t place s ≡ Some n → row_index t.w s < index + 1 → row_index t.w s < index
  none_at index s n at e lt = elim (cases_lt (row_index t.w s) index) [
    | inl less ↦ less
    | inr le ↦
        (let h = row_had s n e in
        let here : row_index t.w s ≡ index = omega arith in
        let zeros : 0 ≡ n = same_Some 0 n (sym at ∙ ap (slice_get (row_of t place)) (sym here) ∙ h.0) in
        absurd (omega (arith, h.1)))
  ]

  -- each shape stands before the end of the row
  pub within_row : (s : TreeShape) (n : ℕ) → sum_at t place s ≡ Some n → row_index t.w s < length (row_of t place)
  within_row s n e = slice_get_within (row_of t place) (row_index t.w s) n (row_had s n e).0
