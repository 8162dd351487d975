-- A shape that has a sum is within the bounds.
use Rattle.std.proofs.lemmas.Bool.{leb-true}
use Rattle.std.proofs.Common.{◌≡◌, refl, ℕ, ◌&&◌, Bool, true, false, cond, Some, None, nat_le, slice_get}
use Rattle.dom_base.proofs.Bools.{and_both}
use Rattle.cover_plan.specs.Parts.{TreeShape}
use Rattle.tree_map.specs.CoverRows.{IsShapeIn}
use Rattle.tree_map.specs.CoverSums.{SumsData, above_zero, has_shape, sum_at, sum_index}
use Rattle.cover_plan.proofs.Tables.{none_is}

pub shape_had_in : (t : SumsData) (shape : TreeShape) → has_shape t shape ≡ true → IsShapeIn t.w t.h shape
shape_had_in t shape e =
    let parts = and_both (nat_le 1 shape.height && nat_le shape.height t.h) (nat_le 1 shape.width && nat_le shape.width t.w) e in
    let tall = and_both (nat_le 1 shape.height) (nat_le shape.height t.h) parts.0 in
    let wide = and_both (nat_le 1 shape.width) (nat_le shape.width t.w) parts.1 in
    record { tall = leb-true 1 shape.height tall.0; high = leb-true shape.height t.h tall.1; wide = leb-true 1 shape.width wide.0; broad = leb-true shape.width t.w wide.1 }

pub sum_in : (t : SumsData) (place : ℕ) (shape : TreeShape) (n : ℕ) → sum_at t place shape ≡ Some n → IsShapeIn t.w t.h shape
sum_in t place shape n e = by (has_shape t shape) refl e
  where
    by : (b : Bool) → has_shape t shape ≡ b → cond b (above_zero (slice_get t.sums (sum_index t place shape))) None ≡ Some n → IsShapeIn t.w t.h shape
    by true had e' = shape_had_in t shape had
    by false had e' = absurd (none_is n e')
