-- A shape that some plan of a part gives has choices that give it at least cost, and each choice is reached by a cover.
use Rattle.std.proofs.lemmas.Option.{same_Some}
use Rattle.std.proofs.Common.{◌≡◌, inl, inr, refl, sym, ap, ap₂, subst, ◌∙◌, ℕ, ◌≤◌, Option, Some, None, arith, le_antisymm}
use Rattle.gate_decompose.specs.Items.{Among}
use Rattle.gate_decompose.proofs.Among.{among_either}
use Rattle.cover_plan.specs.Parts.{Choice, CoverPart, CutOff, End, Fits, Join, Keep, Nothing, Operator, TreeShape, joined_shape, leaf_shape}
use Rattle.cover_plan.specs.CoverTables.{Entry, lowest}
use Rattle.cover_plan.proofs.Shapes.{fits_parts}
use Rattle.cover_plan.proofs.Sums.{joined-below}
use Rattle.cover_plan.proofs.Tables.{lowest_below, lowest_reached}
use Rattle.cover_plan.specs.Covers.{Costs, Cover, Cut, GivesLeast, IsChoice, IsCover, IsFirstAlone, IsLeast, IsLeastOfAll, IsRoot, IsSum, Kept, Single, Split, joined_sum, shape_of, sum_of}
use Rattle.cover_plan.specs.CoverTables.{arm_entries, cut_entry, root_of, table}
use Rattle.cover_plan.proofs.Recurrence.{Reached, arm_bounded, arm_reached, root_least, sum_bounded, table_least}

-- a root is a leaf in the tree above it
pub root_leaf : (op : Operator) (l r : CoverPart) (x : Cover) → IsRoot x → shape_of (Join op l r) x ≡ leaf_shape
root_leaf op l r Single i = refl
root_leaf op l r (Kept a b) i = absurd i
root_leaf op l r (Cut a b) i = refl
root_leaf op l r (Split a b) i = refl

module _ (c : Costs) (w h : ℕ) (wide : 1 ≤ w) (tall : 1 ≤ h) where
  -- the lowest entry of a table is the least of all
  pub lowest_least : (op : Operator) (l r : CoverPart) (m : ℕ) → lowest (table c w h op l r) ≡ Some m → IsLeastOfAll c w h (Join op l r) m
  lowest_least op l r m e =
      let x = lowest_reached (table c w h op l r) m e in
      let is = (table_least c w h wide tall op l r x.0).0 x.1 in
      record {
        shape = (x.0).shape;
        reached = subst (IsSum c w h (Join op l r) (x.0).shape) x.2 is.reached;
        least = λ any other s. bound any other s;
      }
    where
      bound : (any : TreeShape) (other : ℕ) → IsSum c w h (Join op l r) any other → m ≤ other
      bound any other s =
          let b = sum_bounded c w h wide tall op l r any other s in
          let low = lowest_below (table c w h op l r) b.0 b.1 in
          let same = same_Some low.0 m (sym low.1 ∙ e) in
          omega (arith, low.2, b.3, same)

  -- each entry of an arm is a choice for it
  pub entry_choice : (t : CoverPart) (e : Entry) → Among e (arm_entries c w h t) → (x : Choice) × IsChoice c w h t x e.shape e.sum
  entry_choice End e (inl same) = (Nothing, (ap (λ (y : Entry). y.shape) (sym same), ap (λ (y : Entry). y.sum) (sym same)))
  entry_choice End e (inr at) = absurd at
  entry_choice (Join op l r) e at =
      elim (among_either e (table c w h op l r) (cut_entry (root_of c w h op l r)) at) [
        | inl in_table ↦ (Keep e.shape, (refl, (table_least c w h wide tall op l r e).0 in_table))
        | inr is_cut ↦ cut (root_of c w h op l r) refl is_cut
      ]
    where
      cut : (o : Option ℕ) → root_of c w h op l r ≡ o → Among e (cut_entry o) → (x : Choice) × IsChoice c w h (Join op l r) x e.shape e.sum
      cut None is in_ = absurd in_
      cut (Some m) is (inr in_) = absurd in_
      cut (Some m) is (inl same) =
          (CutOff, (ap (λ (y : Entry). y.shape) (sym same), (m, (root_least c w h wide tall op l r m).0 is, ap (λ (y : Entry). y.sum) (sym same))))

  -- and each choice is reached by a cover
  pub choice_reached : (t : CoverPart) (x : Choice) (shape : TreeShape) (sum : ℕ) → IsChoice c w h t x shape sum → Reached c w h t (record { shape = shape; sum = sum })
  choice_reached End Nothing shape sum is = (Single, tt, sym is.0, rw (is.0) (wide, tall), sym is.1)
  choice_reached End (Keep k) shape sum is = absurd is
  choice_reached End CutOff shape sum is = absurd is
  choice_reached (Join op l r) Nothing shape sum is = absurd is
  choice_reached (Join op l r) (Keep k) shape sum (same, least) =
      let s = least.reached in
      (Kept s.left s.right, s.cover, s.shape_is ∙ sym same, subst (Fits w h) (sym same) s.fits, s.sum_is)
  choice_reached (Join op l r) CutOff shape sum (same, (below, least, is_sum)) =
      let s = least.reached in
      (s.cover, s.covers, root_leaf op l r s.cover s.root ∙ sym same, rw same (wide, tall), s.cost_is ∙ sym is_sum)

  -- what an arm has by itself costs no more than any cover within the bounds
  pub alone_least : (t : CoverPart) (x : Choice) (f : IsFirstAlone c w h t x) (a : Cover) → IsCover c w h t a → Fits w h (shape_of t a) → f.sum ≤ sum_of c t a
  alone_least t x f a is fits =
      let b = arm_bounded c w h wide tall t a is fits in
      let y = entry_choice t b.0 b.1 in
      let low = f.least y.0 (b.0).shape (b.0).sum y.1 in
      omega (arith, low, b.3)

  -- a least sum is given by two choices
  pub choices_there : (op : Operator) (l r : CoverPart) (shape : TreeShape) (sum : ℕ) → IsLeast c w h (Join op l r) shape sum → (x : Choice) × (y : Choice) × GivesLeast c w h op l r shape x y
  choices_there op l r shape sum is =
      let s = is.reached in
      let fits = fits_parts w h op (shape_of l s.left) (shape_of r s.right) (subst (Fits w h) (sym s.shape_is) s.fits) in
      let p = arm_bounded c w h wide tall l s.left s.cover.0 fits.0 in
      let q = arm_bounded c w h wide tall r s.right s.cover.1 fits.1 in
      let a = arm_reached c w h wide tall l p.0 p.1 in
      let b = arm_reached c w h wide tall r q.0 q.1 in
      let x = entry_choice l p.0 p.1 in
      let y = entry_choice r q.0 q.1 in
      let same : joined_shape op (p.0).shape (q.0).shape ≡ shape = ap₂ (joined_shape op) p.2 q.2 ∙ s.shape_is in
      let other : IsSum c w h (Join op l r) shape (joined_sum c op (p.0).sum (q.0).sum) = record {
        left = a.0;
        right = b.0;
        cover = (a.1, b.1);
        shape_is = ap₂ (joined_shape op) a.2 b.2 ∙ same;
        fits = s.fits;
        sum_is = ap₂ (λ m n. joined_sum c op m n) a.4 b.4;
      } in
      let low = is.least (joined_sum c op (p.0).sum (q.0).sum) other in
      let sum_is : joined_sum c op (sum_of c l s.left) (sum_of c r s.right) ≡ sum = s.sum_is in
      let one : sum ≡ joined_sum c op (p.0).sum (q.0).sum = le_antisymm low (omega (arith, joined-below c op (p.0).sum (q.0).sum (sum_of c l s.left) (sum_of c r s.right) p.3 q.3, sum_is)) in (
        x.0,
        y.0,
        record {
          left_shape = (p.0).shape;
          right_shape = (q.0).shape;
          left_sum = (p.0).sum;
          right_sum = (q.0).sum;
          is_left = x.1;
          is_right = y.1;
          shape_is = same;
          least = subst (IsLeast c w h (Join op l r) shape) one is;
        },
      )
