-- What a root is, simple or compound, and that one of the two is there within bounds of at least 2.
use Rattle.std.proofs.Common.{◌≡◌, refl, ℕ, ◌+◌, ◌≤◌, Bool, true, false, arith}
use Rattle.cover_plan.specs.Parts.{Choice, CoverPart, CutOff, Join, Operator, TreeShape, leaf_shape}
use Rattle.cover_plan.specs.Covers.{AreFirst, Costs, Cover, Cut, IsChosenCover, IsCompoundRoot, IsRootCost, IsRootShape, IsSimpleRoot, Kept, Single, Split, joined_sum, sum_of}
use Rattle.cover_plan.proofs.Firsts.{chosen_cover_there}
use Rattle.cover_plan.proofs.Recurrence.{root_bounded, root_least}
use Rattle.cover_plan.proofs.CutParts.{cut_all, cut_cover, cut_fits}

-- what a root is: compound or simple, with its shape and the two choices for its arms
pub record RootDecision (c : Costs) (w h : ℕ) (op : Operator) (l r : CoverPart) : Type 0 where
  pub mark : Bool
  pub shape : TreeShape
  pub left : Choice
  pub right : Choice
  pub first : mark ≡ false → AreFirst c w h op l r shape left right
  pub root : mark ≡ false → (is : IsRootShape c w h (Join op l r) shape) × IsSimpleRoot c w h (Join op l r) is.sum
  pub compound : mark ≡ true → IsCompoundRoot c w h op l r left right

pub root_decided : (c : Costs) (w h : ℕ) → 2 ≤ w → 2 ≤ h → (op : Operator) (l r : CoverPart) → RootDecision c w h op l r
root_decided c w h wide tall op l r =
    let m = root_bounded c w h (omega arith) (omega arith) op l r (joined_sum c op (sum_of c l (cut_all l)) (sum_of c r (cut_all r)) + c.simple) root in
    let least = (root_least c w h (omega arith) (omega arith) op l r m.0).0 m.1 in
    let chosen = chosen_cover_there c w h (omega arith) (omega arith) (Join op l r) CutOff leaf_shape (1 + m.0) (refl, (m.0, least, refl)) in
    by chosen.0 chosen.1
  where
    root : IsRootCost c w h (Join op l r) (joined_sum c op (sum_of c l (cut_all l)) (sum_of c r (cut_all r)) + c.simple)
    root = record { cover = Cut (cut_all l) (cut_all r); root = tt; covers = (cut_cover c w h wide tall l, cut_cover c w h wide tall r, cut_fits w h wide tall op l r); cost_is = refl }

    by : (a : Cover) → IsChosenCover c w h (Join op l r) CutOff a → RootDecision c w h op l r
    by Single k = absurd k
    by (Kept a b) k = absurd k
    by (Cut a b) (s, is, simple, (x, y, first, p, q)) =
        record { mark = false; shape = s; left = x; right = y; first = λ e. first; root = λ e. (is, simple); compound = λ e. absurd (cc) }
    by (Split a b) (x, y, is, p, q) =
        record { mark = true; shape = leaf_shape; left = x; right = y; first = λ e. absurd (cc); root = λ e. absurd (cc); compound = λ e. is }
