-- The ties always choose.
use Rattle.std.proofs.lemmas.Option.{same_Some}
use Rattle.std.specs.Prelude.{◌<◌}
use Rattle.std.proofs.Common.{◌≡◌, ◌⊎◌, inl, inr, refl, sym, ap, subst, ◌∙◌, ℕ, ◌+◌, ◌≤◌, Bool, true, false, ◌==◌, ◌&&◌, List, [], ◌∷◌, ◌++◌, map, flat_map, filter, Option, Some, None, eqb-true, eq-eqb, arith}
use Rattle.std.proofs.lemmas.Bool.{cases_lt}
use Rattle.dom_base.proofs.Bools.{and_both}
use Rattle.gate_decompose.specs.Items.{Among}
use Rattle.gate_decompose.proofs.Among.{among_either, among_flat, among_flattened, among_left, among_map, among_mapped, among_right}
use Rattle.cover_plan.specs.Parts.{Choice, Comes, CoverPart, CutOff, Earlier, End, Fits, Join, Keep, Lower, Nothing, Operator, TreeShape, joined_shape, leaf_shape}
use Rattle.cover_plan.specs.CoverTables.{Entry, lowest, same_shape}
use Rattle.cover_plan.proofs.Tables.{lowest_below, lowest_reached, none_is, same_shape-is, same_shape-self}
use Rattle.cover_plan.specs.Covers.{AreFirst, Costs, Cover, Cut, GivesLeast, IsChoice, IsChosenCover, IsCover, IsFirstAlone, IsLeast, IsLeastOfAll, IsRoot, IsRootShape, IsSimpleRoot, IsSplitSum, IsSum, Kept, MaySplit, Single, Split, is_parallel, joined_sum, shape_of, sum_of}
use Rattle.cover_plan.specs.CoverTables.{arm_entries, cut_entry, root_of, table}
use Rattle.cover_plan.proofs.Choices.{choice_reached, choices_there, entry_choice, lowest_least}
use Rattle.cover_plan.proofs.Chosen.{least_of_all_one, least_one}
use Rattle.cover_plan.proofs.Orders.{IsOption, among_filter, choices_ordered, comes_self, comes_total, comes_trans, earlier_trans, filter_among, first_among, lower_self, lower_total, lower_trans}
use Rattle.cover_plan.proofs.Recurrence.{arm_bounded, root_least, sum_bounded, table_least}

module _ (c : Costs) (w h : ℕ) (wide : 1 ≤ w) (tall : 1 ≤ h) where
  -- the least of all is the lowest entry
  least_lowest : (op : Operator) (l r : CoverPart) (m : ℕ) → IsLeastOfAll c w h (Join op l r) m → lowest (table c w h op l r) ≡ Some m
  least_lowest op l r m is =
      let b = sum_bounded c w h wide tall op l r is.shape m is.reached in
      let low = lowest_below (table c w h op l r) b.0 b.1 in
      low.1 ∙ ap Some (least_of_all_one c w h (Join op l r) low.0 m (lowest_least c w h wide tall op l r low.0 low.1) is)

  -- a part that has a plan has a shape for its root
  pub root_shape_there : (op : Operator) (l r : CoverPart) (m : ℕ) → IsLeastOfAll c w h (Join op l r) m → (shape : TreeShape) × (is : IsRootShape c w h (Join op l r) shape) × (is.sum ≡ m)
  root_shape_there op l r m is =
      let es = filter (λ e. e.sum == m) (table c w h op l r) in
      let x = lowest_reached (table c w h op l r) m (least_lowest op l r m is) in
      let start = among_filter (λ e. e.sum == m) x.0 (table c w h op l r) x.1 (eq-eqb (x.0).sum m x.2) in
      let f = first_among (λ (a b : Entry). Lower a.shape b.shape) (λ e. Unit {0}) (λ e. lower_self e.shape) (λ a b d p q. lower_trans a.shape b.shape d.shape p q) (λ a b p q. lower_total a.shape b.shape)
      es (λ e at. tt) x.0 start in
      let g = filter_among (λ e. e.sum == m) f.0 (table c w h op l r) f.1 in
      let sum_is : (f.0).sum ≡ m = eqb-true (f.0).sum m g.1 in (
        (f.0).shape,
        record {
          sum = m;
          least = subst (IsLeast c w h (Join op l r) (f.0).shape) sum_is ((table_least c w h wide tall op l r f.0).0 g.0);
          least_of_all = is;
          first = λ other least. f.2 (record { shape = other; sum = m }) (among_filter (λ e. e.sum == m) (record { shape = other; sum = m }) (table c w h op l r)
              ((table_least c w h wide tall op l r (record { shape = other; sum = m })).1 least) (eq-eqb m m refl));
        },
        refl,
      )

  -- the choices for an arm, with what they give
  arm_choices : CoverPart → List (Choice × Entry)
  arm_choices End = (Nothing, record { shape = leaf_shape; sum = 1 }) ∷ []
  arm_choices (Join op l r) = map (λ e. (Keep e.shape, e)) (table c w h op l r) ++ map (λ e. (CutOff, e)) (cut_entry (root_of c w h op l r))

  choice_listed : (t : CoverPart) (x : Choice) (s : TreeShape) (m : ℕ) → IsChoice c w h t x s m → Among (x, record { shape = s; sum = m }) (arm_choices t)
  unfolding arm_choices
  choice_listed End Nothing s m i = inl (λ j. (Nothing, record { shape = sym i.0 j; sum = sym i.1 j }))
  choice_listed End (Keep k) s m i = absurd i
  choice_listed End CutOff s m i = absurd i
  choice_listed (Join op l r) Nothing s m i = absurd i
  choice_listed (Join op l r) (Keep k) s m i =
      let e : Entry = record { shape = s; sum = m } in
      let at : Among e (table c w h op l r) = (table_least c w h wide tall op l r e).1 (subst (λ z. IsLeast c w h (Join op l r) z m) (sym i.0) i.1) in
      subst (λ (z : TreeShape). Among (Keep z, e) (arm_choices (Join op l r))) i.0
      (among_left (Keep s, e) (map (λ e. (Keep e.shape, e)) (table c w h op l r)) (map (λ e. (CutOff, e)) (cut_entry (root_of c w h op l r))) (among_map (λ e. (Keep e.shape, e)) e (table c w h op l r) at))
  choice_listed (Join op l r) CutOff s m (is_leaf, (below, least, is_sum)) =
      among_right (CutOff, record { shape = s; sum = m }) (map (λ e. (Keep e.shape, e)) (table c w h op l r)) (map (λ e. (CutOff, e)) (cut_entry (root_of c w h op l r)))
      (rw ((root_least c w h wide tall op l r below).1 least) (inl (λ j. (CutOff, record { shape = sym is_leaf j; sum = sym is_sum j }))))

  listed_choice : (t : CoverPart) (x : Choice × Entry) → Among x (arm_choices t) → IsChoice c w h t x.0 (x.1).shape (x.1).sum
  unfolding arm_choices
  listed_choice End x (inl e) = subst (λ (d : Choice × Entry). IsChoice c w h End d.0 (d.1).shape (d.1).sum) e (refl, refl)
  listed_choice End x (inr at) = absurd at
  listed_choice (Join op l r) x at =
      elim (among_either x (map (λ e. (Keep e.shape, e)) (table c w h op l r)) (map (λ e. (CutOff, e)) (cut_entry (root_of c w h op l r))) at) [
        | inl k ↦ let f = among_mapped (λ e. (Keep e.shape, e)) x (table c w h op l r) k in subst (λ (d : Choice × Entry). IsChoice c w h (Join op l r) d.0 (d.1).shape (d.1).sum) f.2 (refl, (table_least c w h wide tall op l r f.0).0 f.1)
        | inr k ↦ cut (root_of c w h op l r) refl k
      ]
    where
      cut : (o : Option ℕ) → root_of c w h op l r ≡ o → Among x (map (λ e. (CutOff, e)) (cut_entry o)) → IsChoice c w h (Join op l r) x.0 (x.1).shape (x.1).sum
      cut None e k = absurd k
      cut (Some m) e (inr k) = absurd k
      cut (Some m) e (inl same) = subst (λ (d : Choice × Entry). IsChoice c w h (Join op l r) d.0 (d.1).shape (d.1).sum) same (refl, (m, (root_least c w h wide tall op l r m).0 e, refl))

  option_of : (t : CoverPart) (x : Choice) (s : TreeShape) (m : ℕ) → IsChoice c w h t x s m → IsOption t x
  unfolding IsOption
  option_of End Nothing s m i = tt
  option_of End (Keep k) s m i = absurd i
  option_of End CutOff s m i = absurd i
  option_of (Join op l r) Nothing s m i = absurd i
  option_of (Join op l r) (Keep k) s m i = tt
  option_of (Join op l r) CutOff s m i = tt

  -- an arm that has an entry has a first choice alone, of its lowest sum
  alone_there : (t : CoverPart) (m : ℕ) → lowest (arm_entries c w h t) ≡ Some m → (x : Choice) × (f : IsFirstAlone c w h t x) × (f.sum ≡ m)
  alone_there t m e =
      let low = lowest_reached (arm_entries c w h t) m e in
      let start = entry_choice c w h wide tall t low.0 low.1 in
      let begin = choice_listed t start.0 (low.0).shape (low.0).sum start.1 in
      let f = first_among Before Fit (λ p. inr refl) (λ p q s a b. before_trans p.0 q.0 s.0 a b) (λ p q a b. before_total p.0 q.0 a b)
      candidates fit (start.0, low.0) (among_filter test (start.0, low.0) (arm_choices t) begin (eq-eqb (low.0).sum m low.2)) in
      let g = filter_among test f.0 (arm_choices t) f.1 in
      let sum_is : ((f.0).1).sum ≡ m = eqb-true ((f.0).1).sum m g.1 in
      let is = listed_choice t f.0 g.0 in (
        (f.0).0,
        record {
          shape = ((f.0).1).shape;
          sum = m;
          is = subst (IsChoice c w h t (f.0).0 ((f.0).1).shape) sum_is is;
          least = λ other any more i. bound other any more i;
          first = λ other any i. f.2 (other, record { shape = any; sum = m }) (among_filter test (other, record { shape = any; sum = m }) (arm_choices t) (choice_listed t other any m i) (eq-eqb m m refl));
        },
        refl,
      )
    where
      test : Choice × Entry → Bool
      test p = (p.1).sum == m

      candidates : List (Choice × Entry)
      candidates = filter test (arm_choices t)

      Before : Choice × Entry → Choice × Entry → Type 0
      Before p q = Earlier p.0 q.0 ⊎ (p.0 ≡ q.0)

      Fit : Choice × Entry → Type 0
      Fit p = IsOption t p.0

      before_trans : (a b d : Choice) → Earlier a b ⊎ (a ≡ b) → Earlier b d ⊎ (b ≡ d) → Earlier a d ⊎ (a ≡ d)
      before_trans a b d (inl x) (inl y) = inl (earlier_trans a b d x y)
      before_trans a b d (inl x) (inr y) = inl (subst (Earlier a) y x)
      before_trans a b d (inr x) (inl y) = inl (subst (λ z. Earlier z d) (sym x) y)
      before_trans a b d (inr x) (inr y) = inr (x ∙ y)

      before_total : (a b : Choice) → IsOption t a → IsOption t b → (Earlier a b ⊎ (a ≡ b)) ⊎ (Earlier b a ⊎ (b ≡ a))
      before_total a b x y = elim (choices_ordered t a b x y) [
        | inl u ↦ inl (inl u)
        | inr (inl u) ↦ inl (inr u)
        | inr (inr u) ↦ inr (inl u)
      ]

      fit : (p : Choice × Entry) → Among p candidates → Fit p
      fit p at = option_of t p.0 (p.1).shape (p.1).sum (listed_choice t p (filter_among test p (arm_choices t) at).0)

      bound : (other : Choice) (any : TreeShape) (more : ℕ) → IsChoice c w h t other any more → m ≤ more
      bound other any more i =
          let r = entry_of other any more i in
          let b = lowest_below (arm_entries c w h t) r.0 r.1 in
          let same = same_Some b.0 m (sym b.1 ∙ e) in
          omega (arith, b.2, r.2, same)
        where
          entry_of : (other : Choice) (any : TreeShape) (more : ℕ) → IsChoice c w h t other any more → (x : Entry) × Among x (arm_entries c w h t) × (x.sum ≤ more)
          entry_of other any more i =
              let a = choice_reached c w h wide tall t other any more i in
              let b = arm_bounded c w h wide tall t a.0 a.1 (subst (Fits w h) (sym a.2) a.3) in
              (b.0, b.1, let s = a.4 in omega (arith, b.3, s))

abbrev ComesPair : (Choice × Entry) × (Choice × Entry) → (Choice × Entry) × (Choice × Entry) → Type 0
ComesPair p q = Comes (p.0).0 (p.1).0 (q.0).0 (q.1).0

module _ (c : Costs) (w h : ℕ) (wide : 1 ≤ w) (tall : 1 ≤ h) where
  -- a least sum has two choices that come first
  pub first_there : (op : Operator) (l r : CoverPart) (shape : TreeShape) (sum : ℕ) → IsLeast c w h (Join op l r) shape sum → (x : Choice) × (y : Choice) × AreFirst c w h op l r shape x y
  first_there op l r shape sum is =
      let k = choices_there c w h wide tall op l r shape sum is in
      let f = first_among ComesPair Fit (λ p. comes_self (p.0).0 (p.1).0) (λ p q s a b. comes_trans (p.0).0 (p.1).0 (q.0).0 (q.1).0 (s.0).0 (s.1).0 a b)
      (λ p q a b. comes_total l r (p.0).0 (p.1).0 (q.0).0 (q.1).0 a.0 a.1 b.0 b.1) candidates fit (pair_of k.0 k.1 k.2) (pair_among k.0 k.1 k.2) in
      (((f.0).0).0, ((f.0).1).0, record { give = gives f.0 f.1; first = λ other more g. f.2 (pair_of other more g) (pair_among other more g) })
    where
      test : (Choice × Entry) × (Choice × Entry) → Bool
      test p = same_shape (joined_shape op ((p.0).1).shape ((p.1).1).shape) shape && (joined_sum c op ((p.0).1).sum ((p.1).1).sum == sum)

      products : List ((Choice × Entry) × (Choice × Entry))
      products = flat_map (λ a. map (λ b. (a, b)) (arm_choices c w h wide tall r)) (arm_choices c w h wide tall l)

      candidates : List ((Choice × Entry) × (Choice × Entry))
      candidates = filter test products

      Fit : (Choice × Entry) × (Choice × Entry) → Type 0
      Fit p = IsOption l (p.0).0 × IsOption r (p.1).0

      parts : (p : (Choice × Entry) × (Choice × Entry)) → Among p products → Among p.0 (arm_choices c w h wide tall l) × Among p.1 (arm_choices c w h wide tall r)
      parts p at =
          let f = among_flattened (λ a. map (λ b. (a, b)) (arm_choices c w h wide tall r)) p (arm_choices c w h wide tall l) at in
          let g = among_mapped (λ b. (f.0, b)) p (arm_choices c w h wide tall r) f.2 in
          subst (λ (q : (Choice × Entry) × (Choice × Entry)). Among q.0 (arm_choices c w h wide tall l) × Among q.1 (arm_choices c w h wide tall r)) g.2 (f.1, g.1)

      fit : (p : (Choice × Entry) × (Choice × Entry)) → Among p candidates → Fit p
      fit p at =
          let q = parts p (filter_among test p products at).0 in
          (option_of c w h wide tall l (p.0).0 ((p.0).1).shape ((p.0).1).sum (listed_choice c w h wide tall l p.0 q.0), option_of c w h wide tall r (p.1).0 ((p.1).1).shape ((p.1).1).sum (listed_choice c w h wide tall r p.1 q.1))

      gives : (p : (Choice × Entry) × (Choice × Entry)) → Among p candidates → GivesLeast c w h op l r shape (p.0).0 (p.1).0
      gives p at =
          let f = filter_among test p products at in
          let q = parts p f.0 in
          let t = and_both (same_shape (joined_shape op ((p.0).1).shape ((p.1).1).shape) shape) (joined_sum c op ((p.0).1).sum ((p.1).1).sum == sum) f.1 in
          record {
            left_shape = ((p.0).1).shape;
            right_shape = ((p.1).1).shape;
            left_sum = ((p.0).1).sum;
            right_sum = ((p.1).1).sum;
            is_left = listed_choice c w h wide tall l p.0 q.0;
            is_right = listed_choice c w h wide tall r p.1 q.1;
            shape_is = same_shape-is (joined_shape op ((p.0).1).shape ((p.1).1).shape) shape t.0;
            least = subst (IsLeast c w h (Join op l r) shape) (sym (eqb-true (joined_sum c op ((p.0).1).sum ((p.1).1).sum) sum t.1)) is;
          }

      pair_of : (x y : Choice) → GivesLeast c w h op l r shape x y → (Choice × Entry) × (Choice × Entry)
      pair_of x y g = ((x, record { shape = g.left_shape; sum = g.left_sum }), (y, record { shape = g.right_shape; sum = g.right_sum }))

      pair_among : (x y : Choice) (g : GivesLeast c w h op l r shape x y) → Among (pair_of x y g) candidates
      pair_among x y g =
          among_filter test (pair_of x y g) products
          (among_flat (λ a. map (λ b. (a, b)) (arm_choices c w h wide tall r)) (x, record { shape = g.left_shape; sum = g.left_sum }) (pair_of x y g) (arm_choices c w h wide tall l)
          (choice_listed c w h wide tall l x g.left_shape g.left_sum g.is_left)
          (among_map (λ b. ((x, record { shape = g.left_shape; sum = g.left_sum }), b)) (y, record { shape = g.right_shape; sum = g.right_sum }) (arm_choices c w h wide tall r)
          (choice_listed c w h wide tall r y g.right_shape g.right_sum g.is_right)))
          (both_from (same_shape (joined_shape op g.left_shape g.right_shape) shape) (joined_sum c op g.left_sum g.right_sum == sum)
          (rw g.shape_is (same_shape-self shape)) (eq-eqb (joined_sum c op g.left_sum g.right_sum) sum (least_one c w h (Join op l r) shape (joined_sum c op g.left_sum g.right_sum) sum g.least is)))
        where
          both_from : (a b : Bool) → a ≡ true → b ≡ true → (a && b) ≡ true
          both_from true b e f = f
          both_from false b e f = absurd (cc)

  -- the lowest sums of the arms of a compound root, where there is one
  abbrev Splits : Operator → CoverPart → CoverPart → Type 0
  Splits op l r = MaySplit c op × ((m : ℕ) × (n : ℕ) × (lowest (arm_entries c w h l) ≡ Some m) × (lowest (arm_entries c w h r) ≡ Some n))

  splits_or_not : (op : Operator) (l r : CoverPart) → Splits op l r ⊎ ((sum : ℕ) → IsSplitSum c w h (Join op l r) sum → ⊥)
  splits_or_not op l r = may (c.splits && is_parallel op) refl
    where
      by_arms : MaySplit c op → (p q : Option ℕ) → lowest (arm_entries c w h l) ≡ p → lowest (arm_entries c w h r) ≡ q → Splits op l r ⊎ ((sum : ℕ) → IsSplitSum c w h (Join op l r) sum → ⊥)
      by_arms i (Some m) (Some n) x y = inl (i, (m, n, x, y))
      by_arms i None q x y = inr (λ sum s.
          let b = arm_bounded c w h wide tall l s.left s.cover.0 s.cover.3 in
          let low = lowest_below (arm_entries c w h l) b.0 b.1 in none_is low.0 (sym x ∙ low.1))
      by_arms i (Some m) None x y = inr (λ sum s.
          let b = arm_bounded c w h wide tall r s.right s.cover.1 s.cover.4 in
          let low = lowest_below (arm_entries c w h r) b.0 b.1 in none_is low.0 (sym y ∙ low.1))

      may : (b : Bool) → (c.splits && is_parallel op) ≡ b → Splits op l r ⊎ ((sum : ℕ) → IsSplitSum c w h (Join op l r) sum → ⊥)
      may true i = by_arms i (lowest (arm_entries c w h l)) (lowest (arm_entries c w h r)) refl refl
      may false i = inr (λ sum s. (let j = s.cover.2 in let k : true ≡ false = sym j ∙ i in cc))

  -- a compound root costs at least the lowest sums of its arms
  split_bound : (op : Operator) (l r : CoverPart) (m n : ℕ) → lowest (arm_entries c w h l) ≡ Some m → lowest (arm_entries c w h r) ≡ Some n
      → (sum : ℕ) → IsSplitSum c w h (Join op l r) sum → m + n ≤ sum
  split_bound op l r m n x y sum s =
      let a = arm_bounded c w h wide tall l s.left s.cover.0 s.cover.3 in
      let b = arm_bounded c w h wide tall r s.right s.cover.1 s.cover.4 in
      let low = lowest_below (arm_entries c w h l) a.0 a.1 in
      let high = lowest_below (arm_entries c w h r) b.0 b.1 in
      let one = same_Some low.0 m (sym low.1 ∙ x) in
      let two = same_Some high.0 n (sym high.1 ∙ y) in
      let whole : sum_of c (Join op l r) (Split s.left s.right) ≡ 1 + (sum + c.compound) = s.sum_is in
      omega (arith, low.2, high.2, a.3, b.3, one, two, whole)

  -- each choice has a chosen cover
  pub chosen_cover_there : (t : CoverPart) (x : Choice) (shape : TreeShape) (sum : ℕ) → IsChoice c w h t x shape sum → (a : Cover) × IsChosenCover c w h t x a
  chosen_cover_there End Nothing shape sum i = (Single, tt)
  chosen_cover_there End (Keep k) shape sum i = absurd i
  chosen_cover_there End CutOff shape sum i = absurd i
  chosen_cover_there (Join op l r) Nothing shape sum i = absurd i
  chosen_cover_there (Join op l r) (Keep k) shape sum i =
      let f = first_there op l r k sum i.1 in
      let g = f.2.give in
      let a = chosen_cover_there l f.0 g.left_shape g.left_sum g.is_left in
      let b = chosen_cover_there r f.1 g.right_shape g.right_sum g.is_right in
      (Kept a.0 b.0, (f.0, f.1, f.2, a.1, b.1))
  chosen_cover_there (Join op l r) CutOff shape sum (is_leaf, (below, least, is_sum)) =
      which (lowest (table c w h op l r)) refl (splits_or_not op l r) (λ x s m i. chosen_cover_there l x s m i) (λ x s m i. chosen_cover_there r x s m i)
    where
      Below : CoverPart → Type 0
      Below t = (x : Choice) (shape : TreeShape) (sum : ℕ) → IsChoice c w h t x shape sum → (a : Cover) × IsChosenCover c w h t x a

      simple : (m : ℕ) → lowest (table c w h op l r) ≡ Some m → IsSimpleRoot c w h (Join op l r) m → Below l → Below r → (a : Cover) × IsChosenCover c w h (Join op l r) CutOff a
      simple m e no_more left right =
          let root = root_shape_there c w h wide tall op l r m (lowest_least c w h wide tall op l r m e) in
          let f = first_there op l r root.0 root.1.sum root.1.least in
          let g = f.2.give in
          let a = left f.0 g.left_shape g.left_sum g.is_left in
          let b = right f.1 g.right_shape g.right_sum g.is_right in
          (Cut a.0 b.0, (root.0, root.1, subst (IsSimpleRoot c w h (Join op l r)) (sym root.2) no_more, (f.0, f.1, f.2, a.1, b.1)))

      compound : (s : Splits op l r) → ((shape : TreeShape) (sum : ℕ) → IsSum c w h (Join op l r) shape sum → s.1.0 + s.1.1 + c.compound < sum + c.simple) → Below l → Below r
          → (a : Cover) × IsChosenCover c w h (Join op l r) CutOff a
      compound (may, (m, n, x, y)) less left right =
          let f = alone_there c w h wide tall l m x in
          let g = alone_there c w h wide tall r n y in
          let a = left f.0 f.1.shape f.1.sum f.1.is in
          let b = right g.0 g.1.shape g.1.sum g.1.is in
          let one = f.2 in
          let two = g.2 in
          (Split a.0 b.0, (f.0, g.0, record { may = may; left_first = f.1; right_first = g.1; less = λ shape sum s. let low = less shape sum s in omega (arith, low, one, two) }, a.1, b.1))

      which : (o : Option ℕ) → lowest (table c w h op l r) ≡ o → Splits op l r ⊎ ((sum : ℕ) → IsSplitSum c w h (Join op l r) sum → ⊥) → Below l → Below r
          → (a : Cover) × IsChosenCover c w h (Join op l r) CutOff a
      which (Some k) e (inr never) left right = simple k e (λ other s. absurd (never other s)) left right
      which (Some k) e (inl (may, (m, n, x, y))) left right =
          elim (cases_lt (m + n + c.compound) (k + c.simple)) [
            | inl lt ↦ compound (may, (m, n, x, y)) (λ shape sum s. let low = (lowest_least c w h wide tall op l r k e).least shape sum s in omega (arith, lt, low)) left right
            | inr ge ↦ simple k e (λ other s. let low = split_bound op l r m n x y other s in omega (arith, ge, low)) left right
          ]
      which None e (inl s) left right =
          compound s (λ shape sum t. absurd (let b = sum_bounded c w h wide tall op l r shape sum t in let low = lowest_below (table c w h op l r) b.0 b.1 in none_is low.0 (sym e ∙ low.1))) left right
      which None e (inr never) left right = absurd (by least.reached.cover least.reached.root least.reached.covers least.reached.cost_is)
        where
          by : (z : Cover) → IsRoot z → IsCover c w h (Join op l r) z → sum_of c (Join op l r) z ≡ 1 + below → ⊥
          by Single i k s = i
          by (Kept a b) i k s = i
          by (Cut a b) i k s =
              let t = sum_bounded c w h wide tall op l r (joined_shape op (shape_of l a) (shape_of r b)) (joined_sum c op (sum_of c l a) (sum_of c r b))
              (record { left = a; right = b; cover = (k.0, k.1); shape_is = refl; fits = k.2; sum_is = refl }) in
              let low = lowest_below (table c w h op l r) t.0 t.1 in none_is low.0 (sym e ∙ low.1)
          by (Split a b) i k s = never (sum_of c l a + sum_of c r b) (record { left = a; right = b; cover = k; sum_is = refl })
