-- The cover that the ties choose is one, and its sum is the least.
use Rattle.std.specs.Prelude.{◌⊎◌}
use Rattle.std.proofs.Common.{◌≡◌, inl, inr, refl, sym, ap, ap₂, subst, ◌∙◌, ℕ, ◌+◌, ◌≤◌, arith, le_antisymm}
use Rattle.cover_plan.specs.Parts.{Choice, CoverPart, CutOff, Earlier, End, Fits, Join, Keep, Nothing, Operator, TreeShape, joined_shape}
use Rattle.cover_plan.specs.Covers.{AreFirst, Costs, Cover, Cut, IsChoice, IsChosenCover, IsCompoundRoot, IsCover, IsFirstAlone, IsLeast, IsLeastOfAll, IsLeastRoot, IsRoot, IsRootCost, IsRootShape, IsSimpleRoot, IsSplitSum, Kept, Single, Split, joined_sum, shape_of, sum_of}
use Rattle.cover_plan.proofs.Choices.{alone_least, choice_reached}
use Rattle.cover_plan.proofs.Orders.{comes_one, earlier_once, lower_one}
use Rattle.cover_plan.proofs.Recurrence.{shape_some}
use Rattle.cover_plan.proofs.Shapes.{IsSome, fits_some, joined_some}

module _ (c : Costs) (w h : ℕ) where
  pub least_one : (t : CoverPart) (shape : TreeShape) (m n : ℕ) → IsLeast c w h t shape m → IsLeast c w h t shape n → m ≡ n
  least_one t shape m n a b = le_antisymm (a.least n b.reached) (b.least m a.reached)

  pub least_of_all_one : (t : CoverPart) (m n : ℕ) → IsLeastOfAll c w h t m → IsLeastOfAll c w h t n → m ≡ n
  least_of_all_one t m n a b = le_antisymm (a.least b.shape n b.reached) (b.least a.shape m a.reached)

  pub least_root_one : (t : CoverPart) (m n : ℕ) → IsLeastRoot c w h t m → IsLeastRoot c w h t n → m ≡ n
  least_root_one t m n a b = le_antisymm (a.least n b.reached) (b.least m a.reached)

  -- a simple root has one shape
  pub root_shape_one : (t : CoverPart) (a b : TreeShape) → IsRootShape c w h t a → IsRootShape c w h t b → a ≡ b
  root_shape_one t a b x y =
      let same = least_of_all_one t x.sum y.sum x.least_of_all y.least_of_all in
      lower_one a b (x.first b (subst (IsLeast c w h t b) (sym same) y.least)) (y.first a (subst (IsLeast c w h t a) same x.least))

  -- the choices that come first are one pair
  pub first_one : (op : Operator) (l r : CoverPart) (shape : TreeShape) (a b x y : Choice)
      → AreFirst c w h op l r shape a b → AreFirst c w h op l r shape x y → (a ≡ x) × (b ≡ y)
  first_one op l r shape a b x y f g = comes_one a b x y (f.first x y g.give) (g.first a b f.give)

  -- an arm alone has one first choice
  pub alone_one : (t : CoverPart) (x y : Choice) → IsFirstAlone c w h t x → IsFirstAlone c w h t y → x ≡ y
  alone_one t x y f g =
      let same = le_antisymm (f.least y g.shape g.sum g.is) (g.least x f.shape f.sum f.is) in
      by (f.first y g.shape (subst (IsChoice c w h t y g.shape) (sym same) g.is)) (g.first x f.shape (subst (IsChoice c w h t x f.shape) same f.is))
    where
      by : Earlier x y ⊎ (x ≡ y) → Earlier y x ⊎ (y ≡ x) → x ≡ y
      by (inl a) (inl b) = absurd (earlier_once x y a b)
      by (inr a) b = a
      by (inl a) (inr b) = sym b

  -- bounds that a root is within are at least 1
  pub cover_some : (op : Operator) (l r : CoverPart) (z : Cover) → IsRoot z → IsCover c w h (Join op l r) z → (1 ≤ w) × (1 ≤ h)
  cover_some op l r Single i k = absurd i
  cover_some op l r (Kept a b) i k = absurd i
  cover_some op l r (Cut a b) i k = fits_some w h (joined_shape op (shape_of l a) (shape_of r b)) (joined_some op (shape_of l a) (shape_of r b) (shape_some l a) (shape_some r b)) k.2
  cover_some op l r (Split a b) i k = fits_some w h (shape_of l a) (shape_some l a) k.3

  -- a compound root is reached by a cover
  compound_sum : 1 ≤ w → 1 ≤ h → (op : Operator) (l r : CoverPart) (x y : Choice) (is : IsCompoundRoot c w h op l r x y) → IsSplitSum c w h (Join op l r) (is.left_first.sum + is.right_first.sum)
  compound_sum wide tall op l r x y is =
      let a = choice_reached c w h wide tall l x is.left_first.shape is.left_first.sum is.left_first.is in
      let b = choice_reached c w h wide tall r y is.right_first.shape is.right_first.sum is.right_first.is in
      record {
        left = a.0;
        right = b.0;
        cover = (a.1, b.1, is.may, subst (Fits w h) (sym a.2) a.3, subst (Fits w h) (sym b.2) b.3);
        sum_is = ap₂ (λ m n. 1 + (m + n + c.compound)) a.4 b.4;
      }

  -- a root isn't both simple and compound
  pub not_both : (op : Operator) (l r : CoverPart) (s : TreeShape) (is : IsRootShape c w h (Join op l r) s) → IsSimpleRoot c w h (Join op l r) is.sum
      → (x y : Choice) → IsCompoundRoot c w h op l r x y → ⊥
  not_both op l r s is simple x y k =
      let reached = is.least.reached in
      let some = fits_some w h s (subst IsSome reached.shape_is (shape_some (Join op l r) (Kept reached.left reached.right))) reached.fits in
      let low = simple (k.left_first.sum + k.right_first.sum) (compound_sum some.0 some.1 op l r x y k) in
      let less = k.less s is.sum reached in
      omega (arith, low, less)

  -- a simple root costs no more than any root
  simple_least : (op : Operator) (l r : CoverPart) (s : TreeShape) (is : IsRootShape c w h (Join op l r) s) → IsSimpleRoot c w h (Join op l r) is.sum
      → (m : ℕ) → IsRootCost c w h (Join op l r) m → is.sum + c.simple ≤ m
  simple_least op l r s is simple m x = by x.cover x.root x.covers x.cost_is
    where
      by : (x : Cover) → IsRoot x → IsCover c w h (Join op l r) x → sum_of c (Join op l r) x ≡ 1 + m → is.sum + c.simple ≤ m
      by Single i k e = absurd i
      by (Kept a b) i k e = absurd i
      by (Cut a b) i k e =
          let low = is.least_of_all.least (joined_shape op (shape_of l a) (shape_of r b)) (joined_sum c op (sum_of c l a) (sum_of c r b))
          (record { left = a; right = b; cover = (k.0, k.1); shape_is = refl; fits = k.2; sum_is = refl }) in
          omega (arith, low, e)
      by (Split a b) i k e =
          let low = simple (sum_of c l a + sum_of c r b) (record { left = a; right = b; cover = k; sum_is = refl }) in
          omega (arith, low, e)

  -- and so does a compound one
  compound_least : (op : Operator) (l r : CoverPart) (x y : Choice) (is : IsCompoundRoot c w h op l r x y)
      → (m : ℕ) → IsRootCost c w h (Join op l r) m → is.left_first.sum + is.right_first.sum + c.compound ≤ m
  compound_least op l r x y is m z = by z.cover z.root z.covers z.cost_is
    where
      by : (z : Cover) → IsRoot z → IsCover c w h (Join op l r) z → sum_of c (Join op l r) z ≡ 1 + m → is.left_first.sum + is.right_first.sum + c.compound ≤ m
      by Single i k e = absurd i
      by (Kept a b) i k e = absurd i
      by (Cut a b) i k e =
          let low = is.less (joined_shape op (shape_of l a) (shape_of r b)) (joined_sum c op (sum_of c l a) (sum_of c r b))
          (record { left = a; right = b; cover = (k.0, k.1); shape_is = refl; fits = k.2; sum_is = refl }) in
          omega (arith, low, e)
      by (Split a b) i k e =
          let some = fits_some w h (shape_of l a) (shape_some l a) k.3 in
          let left = alone_least c w h some.0 some.1 l x is.left_first a k.0 k.3 in
          let right = alone_least c w h some.0 some.1 r y is.right_first b k.1 k.4 in
          omega (arith, left, right, e)

  -- a choice has one chosen cover
  pub chosen_one : (t : CoverPart) (x : Choice) (a b : Cover) → IsChosenCover c w h t x a → IsChosenCover c w h t x b → a ≡ b
  chosen_one End Nothing Single Single p q = refl
  chosen_one End Nothing Single (Kept u v) p q = absurd q
  chosen_one End Nothing Single (Cut u v) p q = absurd q
  chosen_one End Nothing Single (Split u v) p q = absurd q
  chosen_one End Nothing (Kept a b) u p q = absurd p
  chosen_one End Nothing (Cut a b) u p q = absurd p
  chosen_one End Nothing (Split a b) u p q = absurd p
  chosen_one End (Keep s) a b p q = absurd p
  chosen_one End CutOff a b p q = absurd p
  chosen_one (Join op l r) Nothing a b p q = absurd p
  chosen_one (Join op l r) (Keep s) Single b p q = absurd p
  chosen_one (Join op l r) (Keep s) (Cut a b) u p q = absurd p
  chosen_one (Join op l r) (Keep s) (Split a b) u p q = absurd p
  chosen_one (Join op l r) (Keep s) (Kept a b) Single p q = absurd q
  chosen_one (Join op l r) (Keep s) (Kept a b) (Cut u v) p q = absurd q
  chosen_one (Join op l r) (Keep s) (Kept a b) (Split u v) p q = absurd q
  chosen_one (Join op l r) (Keep s) (Kept a b) (Kept u v) (x, y, first, left, right) (x', y', first', left', right') =
      let same = first_one op l r s x y x' y' first first' in
      ap₂ Kept (chosen_one l x' a u (subst (λ k. IsChosenCover c w h l k a) same.0 left) left') (chosen_one r y' b v (subst (λ k. IsChosenCover c w h r k b) same.1 right) right')
  chosen_one (Join op l r) CutOff Single b p q = absurd p
  chosen_one (Join op l r) CutOff (Kept a b) u p q = absurd p
  chosen_one (Join op l r) CutOff (Cut a b) Single p q = absurd q
  chosen_one (Join op l r) CutOff (Cut a b) (Kept u v) p q = absurd q
  chosen_one (Join op l r) CutOff (Split a b) Single p q = absurd q
  chosen_one (Join op l r) CutOff (Split a b) (Kept u v) p q = absurd q
  chosen_one (Join op l r) CutOff (Cut a b) (Cut u v) (s, is_s, simple, (x, y, first, left, right)) (s', is_s', simple', (x', y', first', left', right')) =
      let shape = root_shape_one (Join op l r) s s' is_s is_s' in
      let same = first_one op l r s' x y x' y' (subst (λ k. AreFirst c w h op l r k x y) shape first) first' in
      ap₂ Cut (chosen_one l x' a u (subst (λ k. IsChosenCover c w h l k a) same.0 left) left') (chosen_one r y' b v (subst (λ k. IsChosenCover c w h r k b) same.1 right) right')
  chosen_one (Join op l r) CutOff (Split a b) (Split u v) (x, y, is, left, right) (x', y', is', left', right') =
      let one = alone_one l x x' is.left_first is'.left_first in
      let two = alone_one r y y' is.right_first is'.right_first in
      ap₂ Split (chosen_one l x' a u (subst (λ k. IsChosenCover c w h l k a) one left) left') (chosen_one r y' b v (subst (λ k. IsChosenCover c w h r k b) two right) right')
  chosen_one (Join op l r) CutOff (Cut a b) (Split u v) (s, is_s, simple, rest) (x, y, is, p', q') = absurd (not_both op l r s is_s simple x y is)
  chosen_one (Join op l r) CutOff (Split u v) (Cut a b) (x, y, is, p', q') (s, is_s, simple, rest) = absurd (not_both op l r s is_s simple x y is)

  -- the chosen cover is a cover, with the shape and the sum of its choice
  pub chosen_is : (t : CoverPart) (x : Choice) (a : Cover) (shape : TreeShape) (sum : ℕ) → IsChoice c w h t x shape sum → IsChosenCover c w h t x a
      → IsCover c w h t a × (shape_of t a ≡ shape) × (sum_of c t a ≡ sum)
  chosen_is End Nothing Single shape sum i p = (tt, sym i.0, sym i.1)
  chosen_is End Nothing (Kept a b) shape sum i p = absurd p
  chosen_is End Nothing (Cut a b) shape sum i p = absurd p
  chosen_is End Nothing (Split a b) shape sum i p = absurd p
  chosen_is End (Keep s) a shape sum i p = absurd p
  chosen_is End CutOff a shape sum i p = absurd p
  chosen_is (Join op l r) Nothing a shape sum i p = absurd p
  chosen_is (Join op l r) (Keep s) Single shape sum i p = absurd p
  chosen_is (Join op l r) (Keep s) (Cut a b) shape sum i p = absurd p
  chosen_is (Join op l r) (Keep s) (Split a b) shape sum i p = absurd p
  chosen_is (Join op l r) (Keep s) (Kept a b) shape sum i (x, y, first, left, right) =
      let g = first.give in
      let la = chosen_is l x a g.left_shape g.left_sum g.is_left left in
      let rb = chosen_is r y b g.right_shape g.right_sum g.is_right right in (
        (la.0, rb.0),
        ap₂ (joined_shape op) la.1 rb.1 ∙ g.shape_is ∙ sym i.0,
        ap₂ (λ m n. joined_sum c op m n) la.2 rb.2 ∙ least_one (Join op l r) s (joined_sum c op g.left_sum g.right_sum) sum g.least i.1,
      )
  chosen_is (Join op l r) CutOff Single shape sum i p = absurd p
  chosen_is (Join op l r) CutOff (Kept a b) shape sum i p = absurd p
  chosen_is (Join op l r) CutOff (Cut a b) shape sum (is_leaf, (below, least, is_sum)) (s, is_s, simple, (x, y, first, left, right)) =
      let g = first.give in
      let la = chosen_is l x a g.left_shape g.left_sum g.is_left left in
      let rb = chosen_is r y b g.right_shape g.right_sum g.is_right right in
      let own : joined_sum c op g.left_sum g.right_sum ≡ is_s.sum = least_one (Join op l r) s (joined_sum c op g.left_sum g.right_sum) is_s.sum g.least is_s.least in
      let cover : IsCover c w h (Join op l r) (Cut a b) = (la.0, rb.0, subst (Fits w h) (sym (ap₂ (joined_shape op) la.1 rb.1 ∙ g.shape_is)) is_s.least.reached.fits) in
      let whole : sum_of c (Join op l r) (Cut a b) ≡ 1 + (is_s.sum + c.simple) = ap (λ n. 1 + (n + c.simple)) (ap₂ (λ m n. joined_sum c op m n) la.2 rb.2 ∙ own) in
      let same = le_antisymm (simple_least op l r s is_s simple below least.reached) (least.least (is_s.sum + c.simple) (record { cover = Cut a b; root = tt; covers = cover; cost_is = whole })) in
      (cover, sym is_leaf, whole ∙ ap (λ n. 1 + n) same ∙ sym is_sum)
  chosen_is (Join op l r) CutOff (Split a b) shape sum (is_leaf, (below, least, is_sum)) (x, y, is, left, right) =
      let la = chosen_is l x a is.left_first.shape is.left_first.sum is.left_first.is left in
      let rb = chosen_is r y b is.right_first.shape is.right_first.sum is.right_first.is right in
      let some = cover_some op l r least.reached.cover least.reached.root least.reached.covers in
      let fa = choice_reached c w h some.0 some.1 l x is.left_first.shape is.left_first.sum is.left_first.is in
      let fb = choice_reached c w h some.0 some.1 r y is.right_first.shape is.right_first.sum is.right_first.is in
      let cover : IsCover c w h (Join op l r) (Split a b) = (la.0, rb.0, is.may, subst (Fits w h) (sym la.1) fa.3, subst (Fits w h) (sym rb.1) fb.3) in
      let whole : sum_of c (Join op l r) (Split a b) ≡ 1 + (is.left_first.sum + is.right_first.sum + c.compound) = ap₂ (λ m n. 1 + (m + n + c.compound)) la.2 rb.2 in
      let same = le_antisymm (compound_least op l r x y is below least.reached) (least.least (is.left_first.sum + is.right_first.sum + c.compound) (record { cover = Split a b; root = tt; covers = cover; cost_is = whole })) in
      (cover, sym is_leaf, whole ∙ ap (λ n. 1 + n) same ∙ sym is_sum)
