-- What stands in the sums at the number of a pair and a shape.
use Rattle.std.proofs.Common.{◌≡◌, inl, inr, refl, sym, ap, ◌∙◌, ℕ, zero, suc, ◌+◌, ◌*◌, ◌^◌, ◌-◌, ◌<◌, ◌≤◌, min, true, length, Option, None, Some, slice_get, arith}
use Rattle.std.proofs.lemmas.Bool.{cases_lt, le-leb}
use Rattle.std.proofs.lemmas.Option.{same_Some, slice_get_past}
use Rattle.cover_plan.specs.Parts.{TreeShape}
use Rattle.cover_plan.proofs.Tables.{none_is}
use Rattle.tree_map.specs.CoverSums.{SumsData, above_zero, has_shape, sum_at}

pub shape_had : (t : SumsData) (shape : TreeShape) → 1 ≤ shape.height → shape.height ≤ t.h → 1 ≤ shape.width → shape.width ≤ t.w → has_shape t shape ≡ true
shape_had t shape a b c d = rw (le-leb 1 shape.height a, le-leb shape.height t.h b, le-leb 1 shape.width c, le-leb shape.width t.w d) refl

-- a number that is there is had where it isn't 0
pub above_zero-some : (o : Option ℕ) (n : ℕ) → o ≡ Some n → 0 < n → Some n ≡ above_zero o
above_zero-some o zero e some = absurd (omega (arith, some))
above_zero-some o (suc n) e some = rw e refl

pub above_zero-never : (o : Option ℕ) → above_zero o ≡ Some 0 → ⊥
above_zero-never None e = none_is 0 e
above_zero-never (Some zero) e = none_is 0 e
above_zero-never (Some (suc n)) e = let same = same_Some (suc n) 0 e in cc

-- a read of the sums in range: the index is that of the pair and the shape, or above all indices
pub record IsRead (t : SumsData) (place height width index : ℕ) : Type 0 where
  pub tall : 1 ≤ height
  pub high : height ≤ t.h
  pub wide : 1 ≤ width
  pub broad : width ≤ t.w
  pub short : length t.sums < 2 ^ 64
  pub index_is : index ≡ min (place * (t.w * t.h) + ((height - 1) * t.w + (width - 1))) (2 ^ 64 - 1)

sum_at-read : (t : SumsData) (place height width index : ℕ) → IsRead t place height width index
    → sum_at t place (record { height = height; width = width }) ≡ above_zero (slice_get t.sums index)
sum_at-read t place height width index is =
    rw (shape_had t (record { height = height; width = width }) is.tall is.high is.wide is.broad) (ap above_zero (read (place * (t.w * t.h) + ((height - 1) * t.w + (width - 1))) is.index_is is.short))
  where
    read : (n : ℕ) → index ≡ min n (2 ^ 64 - 1) → length t.sums < 2 ^ 64 → slice_get t.sums n ≡ slice_get t.sums index
    read n e short = elim (cases_lt n (2 ^ 64)) [
      | inl lt ↦ (let same : n ≡ index = omega arith in ap (slice_get t.sums) same)
      | inr le ↦ slice_get_past t.sums n (omega arith) ∙ sym (slice_get_past t.sums index (omega arith))
    ]

pub sum_at-some : (t : SumsData) (place height width index n : ℕ) → IsRead t place height width index → slice_get t.sums index ≡ Some n → 0 < n
    → Some n ≡ sum_at t place (record { height = height; width = width })
sum_at-some t place height width index n is e some = above_zero-some (slice_get t.sums index) n e some ∙ sym (sum_at-read t place height width index is)
