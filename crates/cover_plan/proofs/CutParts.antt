-- A part whose free edges are all cut is covered within bounds of at least 2.
use Rattle.std.proofs.Common.{refl, ℕ, ◌≡◌, ◌≤◌}
use Rattle.cover_plan.specs.Covers.{Costs, Cover, Cut, IsCover, IsSum, Single, joined_sum, shape_of, sum_of}
use Rattle.cover_plan.specs.Parts.{CoverPart, End, Fits, Join, Operator, joined_shape, leaf_shape}
use Rattle.cover_plan.proofs.Shapes.{two_leaves}

unfoldable pub cut_all : CoverPart → Cover
cut_all End = Single
cut_all (Join op l r) = Cut (cut_all l) (cut_all r)

cut_shape : (t : CoverPart) → shape_of t (cut_all t) ≡ leaf_shape
unfolding cut_all
cut_shape End = refl
cut_shape (Join op l r) = refl

pub cut_fits : (w h : ℕ) → 2 ≤ w → 2 ≤ h → (op : Operator) (l r : CoverPart) → Fits w h (joined_shape op (shape_of l (cut_all l)) (shape_of r (cut_all r)))
cut_fits w h wide tall op l r = rw (cut_shape l, cut_shape r) (two_leaves w h wide tall op)

pub cut_cover : (c : Costs) (w h : ℕ) → 2 ≤ w → 2 ≤ h → (t : CoverPart) → IsCover c w h t (cut_all t)
unfolding cut_all
cut_cover c w h wide tall End = tt
cut_cover c w h wide tall (Join op l r) = (cut_cover c w h wide tall l, cut_cover c w h wide tall r, cut_fits w h wide tall op l r)

-- so its pair has a sum
pub cut_sum : (c : Costs) (w h : ℕ) → 2 ≤ w → 2 ≤ h → (op : Operator) (l r : CoverPart)
    → IsSum c w h (Join op l r) (joined_shape op (shape_of l (cut_all l)) (shape_of r (cut_all r))) (joined_sum c op (sum_of c l (cut_all l)) (sum_of c r (cut_all r)))
cut_sum c w h wide tall op l r = record {
  left = cut_all l;
  right = cut_all r;
  cover = (cut_cover c w h wide tall l, cut_cover c w h wide tall r);
  shape_is = refl;
  fits = cut_fits w h wide tall op l r;
  sum_is = refl;
}
