-- The table of a part holds exactly the least sums over all covers, and the cost of its root is the least of all roots.
use Rattle.std.specs.Prelude.{◌⊎◌}
use Rattle.std.proofs.lemmas.Option.{same_Some}
use Rattle.std.proofs.Common.{◌≡◌, ◌↔◌, ◌&&◌, inl, inr, refl, sym, ap, ap₂, subst, ◌∙◌, ℕ, ◌+◌, ◌≤◌, Bool, true, false, cond, List, map, Option, Some, None, option_map, arith, le_antisymm}
use Rattle.gate_decompose.specs.Items.{Among}
use Rattle.gate_decompose.proofs.Among.{among_left, among_right, among_either, among_map, among_mapped, among_flat, among_flattened}
use Rattle.cover_plan.proofs.Shapes.{IsSome, fits_parts, joined_some}
use Rattle.cover_plan.proofs.Sums.{joined-below}
use Rattle.cover_plan.proofs.Tables.{AtMost, best_below, best_reached, lower_of-first, lower_of-is, lower_of-second, lowest_below, lowest_reached, among_shapes, none_is, shape_fits, among_table, table_best}
use Rattle.cover_plan.specs.Parts.{Operator, CoverPart, End, Join, TreeShape, leaf_shape, joined_shape, Fits}
use Rattle.cover_plan.specs.CoverTables.{Entry, best, lowest, shapes}
use Rattle.cover_plan.specs.Covers.{Costs, Cover, Single, Kept, Cut, Split, IsCover, IsLeast, IsLeastRoot, IsRoot, IsRootCost, IsSum, MaySplit, is_parallel, joined_sum, shape_of, sum_of}
use Rattle.cover_plan.specs.CoverTables.{arm_entries, combined, cut_entry, joined_cost, lower_both, root_of, split_cost, table}

-- the lower of two costs is one of them, and at most each
pub lower_both-is : (a b : Option ℕ) (m : ℕ) → lower_both a b ≡ Some m → (a ≡ Some m) ⊎ (b ≡ Some m)
lower_both-is a None m e = inl e
lower_both-is None (Some k) m e = inr e
lower_both-is (Some n) (Some k) m e = elim (lower_of-is n (Some k) m e) [ inl same ↦ inl (ap Some (sym same)) | inr there ↦ inr there ]

lower_both-first : (a b : Option ℕ) (n : ℕ) → AtMost a n → AtMost (lower_both a b) n
lower_both-first a None n h = h
lower_both-first None (Some j) n (m, e, le) = absurd (none_is m e)
lower_both-first (Some k) (Some j) n (m, e, le) =
    let same = same_Some k m e in
    let low = lower_of-first k (Some j) in
    (low.0, low.1, omega (arith, low.2))

lower_both-second : (a b : Option ℕ) (n : ℕ) → AtMost b n → AtMost (lower_both a b) n
lower_both-second a None n (m, e, le) = absurd (none_is m e)
lower_both-second None (Some j) n h = h
lower_both-second (Some k) (Some j) n h = lower_of-second k (Some j) n h

pub shape_some : (t : CoverPart) (a : Cover) → IsSome (shape_of t a)
shape_some End a = (omega arith, omega arith)
shape_some (Join op l r) Single = (omega arith, omega arith)
shape_some (Join op l r) (Cut a b) = (omega arith, omega arith)
shape_some (Join op l r) (Split a b) = (omega arith, omega arith)
shape_some (Join op l r) (Kept a b) = joined_some op (shape_of l a) (shape_of r b) (shape_some l a) (shape_some r b)

-- some entry of this shape has at most this sum
abbrev pub Bounded : List Entry → TreeShape → ℕ → Type 0
Bounded es shape sum = (e : Entry) × Among e es × (e.shape ≡ shape) × (e.sum ≤ sum)

-- an entry is reached by a cover of an arm, and a cover by an entry that is no greater
abbrev pub Reached : Costs → ℕ → ℕ → CoverPart → Entry → Type 0
Reached c w h t e = (a : Cover) × IsCover c w h t a × (shape_of t a ≡ e.shape) × Fits w h e.shape × (sum_of c t a ≡ e.sum)

module _ (c : Costs) (w h : ℕ) (wide : 1 ≤ w) (tall : 1 ≤ h) where
  AllReached : CoverPart → Type 0
  AllReached t = (e : Entry) → Among e (arm_entries c w h t) → Reached c w h t e

  AllBounded : CoverPart → Type 0
  AllBounded t = (a : Cover) → IsCover c w h t a → Fits w h (shape_of t a) → Bounded (arm_entries c w h t) (shape_of t a) (sum_of c t a)

  -- each entry of a table is the sum of a plan
  table_sum : (op : Operator) (l r : CoverPart) → AllReached l → AllReached r → (e : Entry) → Among e (table c w h op l r) → IsSum c w h (Join op l r) e.shape e.sum
  unfolding AllReached
  table_sum op l r left right e at =
      let is = table_best w h (combined c op (arm_entries c w h l) (arm_entries c w h r)) e at in
      let x = best_reached (combined c op (arm_entries c w h l) (arm_entries c w h r)) e.shape e.sum is.1 in
      let p = among_flattened (λ a. map (λ b. record { shape = joined_shape op a.shape b.shape; sum = joined_sum c op a.sum b.sum }) (arm_entries c w h r)) x.0 (arm_entries c w h l) x.1 in
      let q = among_mapped (λ b. record { shape = joined_shape op (p.0).shape b.shape; sum = joined_sum c op (p.0).sum b.sum }) x.0 (arm_entries c w h r) p.2 in
      let a = left p.0 p.1 in
      let b = right q.0 q.1 in
      record {
        left = a.0;
        right = b.0;
        cover = (a.1, b.1);
        shape_is = ap₂ (joined_shape op) a.2 b.2 ∙ ap (λ (y : Entry). y.shape) q.2 ∙ x.2;
        fits = shape_fits w h e.shape is.0;
        sum_is = ap₂ (λ m n. joined_sum c op m n) a.4 b.4 ∙ ap (λ (y : Entry). y.sum) q.2 ∙ x.3;
      }

  -- and each plan has an entry that is no greater
  table_bounds : (op : Operator) (l r : CoverPart) → AllBounded l → AllBounded r
      → (a b : Cover) → IsCover c w h l a → IsCover c w h r b → Fits w h (joined_shape op (shape_of l a) (shape_of r b))
      → Bounded (table c w h op l r) (joined_shape op (shape_of l a) (shape_of r b)) (joined_sum c op (sum_of c l a) (sum_of c r b))
  unfolding AllBounded
  table_bounds op l r left right a b is_a is_b fits =
      let parts = fits_parts w h op (shape_of l a) (shape_of r b) fits in
      let p = left a is_a parts.0 in
      let q = right b is_b parts.1 in
      let es = combined c op (arm_entries c w h l) (arm_entries c w h r) in
      let x : Entry = record { shape = joined_shape op (p.0).shape (q.0).shape; sum = joined_sum c op (p.0).sum (q.0).sum } in
      let same : x.shape ≡ joined_shape op (shape_of l a) (shape_of r b) = ap₂ (joined_shape op) p.2 q.2 in
      let at : Among x es = among_flat (λ y. map (λ d. record { shape = joined_shape op y.shape d.shape; sum = joined_sum c op y.sum d.sum }) (arm_entries c w h r)) p.0 x (arm_entries c w h l) p.1
      (among_map (λ d. record { shape = joined_shape op (p.0).shape d.shape; sum = joined_sum c op (p.0).sum d.sum }) q.0 (arm_entries c w h r) q.1) in
      let m = best_below es x at in
      let some = joined_some op (shape_of l a) (shape_of r b) (shape_some l a) (shape_some r b) in
      let inside = among_shapes w h (joined_shape op (shape_of l a) (shape_of r b)) some.0 some.1 fits in (
        record { shape = x.shape; sum = m.0 },
        among_table w h es (record { shape = x.shape; sum = m.0 }) (subst (λ s. Among s (shapes w h)) (sym same) inside) m.1,
        same,
        omega (arith, m.2, joined-below c op (p.0).sum (q.0).sum (sum_of c l a) (sum_of c r b) p.3 q.3),
      )

  -- the cost of a root is that of some cover
  root_reached_by : (op : Operator) (l r : CoverPart) → AllReached l → AllReached r → (m : ℕ) → root_of c w h op l r ≡ Some m → IsRootCost c w h (Join op l r) m
  unfolding AllReached
  root_reached_by op l r left right m e =
      elim (lower_both-is (option_map (λ n. n + c.simple) (lowest (table c w h op l r))) (split_cost c op (arm_entries c w h l) (arm_entries c w h r)) m e) [
        | inl one ↦ simple (lowest (table c w h op l r)) refl one
        | inr two ↦ split op two
      ]
    where
      simple : (o : Option ℕ) → lowest (table c w h op l r) ≡ o → option_map (λ n. n + c.simple) o ≡ Some m → IsRootCost c w h (Join op l r) m
      simple None z y = absurd (none_is m y)
      simple (Some n) z y =
          let x = lowest_reached (table c w h op l r) n z in
          let s = table_sum op l r left right x.0 x.1 in
          let same = same_Some (n + c.simple) m y in
          record {
            cover = Cut s.left s.right;
            root = tt;
            covers = (s.cover.0, s.cover.1, subst (Fits w h) (sym s.shape_is) s.fits);
            cost_is = ap (λ k. 1 + (k + c.simple)) (s.sum_is ∙ x.2) ∙ ap (λ k. 1 + k) same;
          }

      by_arms : (op : Operator) → MaySplit c op → (p q : Option ℕ) → lowest (arm_entries c w h l) ≡ p → lowest (arm_entries c w h r) ≡ q → joined_cost c.compound p q ≡ Some m → IsRootCost c w h (Join op l r) m
      by_arms op may None q z y g = absurd (none_is m g)
      by_arms op may (Some a) None z y g = absurd (none_is m g)
      by_arms op may (Some a) (Some b) z y g =
          let x = lowest_reached (arm_entries c w h l) a z in
          let u = lowest_reached (arm_entries c w h r) b y in
          let i = left x.0 x.1 in
          let j = right u.0 u.1 in
          record {
            cover = Split i.0 j.0;
            root = tt;
            covers = (i.1, j.1, may, subst (Fits w h) (sym i.2) i.3, subst (Fits w h) (sym j.2) j.3);
            cost_is = ap₂ (λ u v. 1 + (u + v + c.compound)) (i.4 ∙ x.2) (j.4 ∙ u.2) ∙ ap (λ k. 1 + k) (same_Some (a + b + c.compound) m g);
          }

      split : (op : Operator) → split_cost c op (arm_entries c w h l) (arm_entries c w h r) ≡ Some m → IsRootCost c w h (Join op l r) m
      split op g = by (c.splits && is_parallel op) refl g
        where
          by : (b : Bool) → (c.splits && is_parallel op) ≡ b → cond b (joined_cost c.compound (lowest (arm_entries c w h l)) (lowest (arm_entries c w h r))) None ≡ Some m → IsRootCost c w h (Join op l r) m
          by true z g = by_arms op z (lowest (arm_entries c w h l)) (lowest (arm_entries c w h r)) refl refl g
          by false z g = absurd (none_is m g)

  -- and at most that of each
  root_bounded_by : (op : Operator) (l r : CoverPart) → AllBounded l → AllBounded r → (x : Cover) → IsRoot x → IsCover c w h (Join op l r) x → (n : ℕ) → sum_of c (Join op l r) x ≡ 1 + n
      → AtMost (root_of c w h op l r) n
  unfolding AllBounded
  root_bounded_by op l r left right Single i is n e = absurd i
  root_bounded_by op l r left right (Kept a b) i is n e = absurd i
  root_bounded_by op l r left right (Cut a b) i is n e =
      let x = table_bounds op l r left right a b is.0 is.1 is.2 in
      let m = lowest_below (table c w h op l r) x.0 x.1 in
      lower_both-first (option_map (λ n. n + c.simple) (lowest (table c w h op l r))) (split_cost c op (arm_entries c w h l) (arm_entries c w h r)) n
      (m.0 + c.simple, rw m.1 refl, omega (arith, m.2, x.3, e))
  root_bounded_by op l r left right (Split a b) i is n e =
      lower_both-second (option_map (λ n. n + c.simple) (lowest (table c w h op l r))) (split_cost c op (arm_entries c w h l) (arm_entries c w h r)) n (by op is.2)
    where
      x : Bounded (arm_entries c w h l) (shape_of l a) (sum_of c l a)
      x = left a is.0 is.3

      y : Bounded (arm_entries c w h r) (shape_of r b) (sum_of c r b)
      y = right b is.1 is.4

      p : AtMost (lowest (arm_entries c w h l)) (x.0).sum
      p = lowest_below (arm_entries c w h l) x.0 x.1

      q : AtMost (lowest (arm_entries c w h r)) (y.0).sum
      q = lowest_below (arm_entries c w h r) y.0 y.1

      by : (op : Operator) → MaySplit c op → AtMost (split_cost c op (arm_entries c w h l) (arm_entries c w h r)) n
      by op may = there (c.splits && is_parallel op) may (lowest (arm_entries c w h l)) (lowest (arm_entries c w h r)) p q
        where
          there : (b : Bool) → b ≡ true → (i j : Option ℕ) → AtMost i (x.0).sum → AtMost j (y.0).sum → AtMost (cond b (joined_cost c.compound i j) None) n
          there true z i j (m, f, low) (k, g, high) = (m + k + c.compound, rw (f, g) refl, omega (arith, low, high, x.3, y.3, e))
          there false z i j f g = absurd (cc)

  -- the same of the entries of an arm
  arm_reached_in : (t : CoverPart) → AllReached t
  unfolding AllReached
  arm_reached_in End e (inl same) = (Single, tt, ap (λ (y : Entry). y.shape) same, subst (λ (y : Entry). Fits w h y.shape) same (wide, tall), ap (λ (y : Entry). y.sum) same)
  arm_reached_in End e (inr at) = absurd at
  arm_reached_in (Join op l r) e at =
      elim (among_either e (table c w h op l r) (cut_entry (root_of c w h op l r)) at) [
        | inl in_table ↦ kept (table_sum op l r (arm_reached_in l) (arm_reached_in r) e in_table)
        | inr is_cut ↦ cut (root_of c w h op l r) is_cut (λ m z. root_reached_by op l r (arm_reached_in l) (arm_reached_in r) m z)
      ]
    where
      kept : IsSum c w h (Join op l r) e.shape e.sum → Reached c w h (Join op l r) e
      kept s = (Kept s.left s.right, s.cover, s.shape_is, s.fits, s.sum_is)

      leaf : (x : Cover) → IsRoot x → shape_of (Join op l r) x ≡ leaf_shape
      leaf Single i = refl
      leaf (Kept a b) i = absurd i
      leaf (Cut a b) i = refl
      leaf (Split a b) i = refl

      cut : (o : Option ℕ) → Among e (cut_entry o) → ((m : ℕ) → o ≡ Some m → IsRootCost c w h (Join op l r) m) → Reached c w h (Join op l r) e
      cut None in_ roots = absurd in_
      cut (Some m) (inr in_) roots = absurd in_
      cut (Some m) (inl same) roots =
          let s = roots m refl in (
            s.cover,
            s.covers,
            leaf s.cover s.root ∙ ap (λ (y : Entry). y.shape) same,
            subst (λ (y : Entry). Fits w h y.shape) same (wide, tall),
            s.cost_is ∙ ap (λ (y : Entry). y.sum) same,
          )

  arm_bounded_in : (t : CoverPart) → AllBounded t
  unfolding AllBounded
  arm_bounded_in End Single is fits = (record { shape = leaf_shape; sum = 1 }, inl refl, refl, omega arith)
  arm_bounded_in End (Kept a b) is fits = absurd is
  arm_bounded_in End (Cut a b) is fits = absurd is
  arm_bounded_in End (Split a b) is fits = absurd is
  arm_bounded_in (Join op l r) Single is fits = absurd is
  arm_bounded_in (Join op l r) (Kept a b) is fits =
      let e = table_bounds op l r (arm_bounded_in l) (arm_bounded_in r) a b is.0 is.1 fits in
      (e.0, among_left e.0 (table c w h op l r) (cut_entry (root_of c w h op l r)) e.1, e.2, e.3)
  arm_bounded_in (Join op l r) (Cut a b) is fits =
      let m = root_bounded_by op l r (arm_bounded_in l) (arm_bounded_in r) (Cut a b) tt is _ refl in
      let x : Entry = record { shape = leaf_shape; sum = 1 + m.0 } in
      (x, among_right x (table c w h op l r) (cut_entry (root_of c w h op l r)) (rw m.1 (inl refl)), refl, omega (arith, m.2))
  arm_bounded_in (Join op l r) (Split a b) is fits =
      let m = root_bounded_by op l r (arm_bounded_in l) (arm_bounded_in r) (Split a b) tt is _ refl in
      let x : Entry = record { shape = leaf_shape; sum = 1 + m.0 } in
      (x, among_right x (table c w h op l r) (cut_entry (root_of c w h op l r)) (rw m.1 (inl refl)), refl, omega (arith, m.2))

  pub arm_reached : (t : CoverPart) (e : Entry) → Among e (arm_entries c w h t) → Reached c w h t e
  unfolding AllReached
  arm_reached t = arm_reached_in t

  pub arm_bounded : (t : CoverPart) (a : Cover) → IsCover c w h t a → Fits w h (shape_of t a) → Bounded (arm_entries c w h t) (shape_of t a) (sum_of c t a)
  unfolding AllBounded
  arm_bounded t = arm_bounded_in t

  pub sum_bounded : (op : Operator) (l r : CoverPart) (shape : TreeShape) (sum : ℕ) → IsSum c w h (Join op l r) shape sum → Bounded (table c w h op l r) shape sum
  sum_bounded op l r shape sum s =
      let b = table_bounds op l r (arm_bounded_in l) (arm_bounded_in r) s.left s.right s.cover.0 s.cover.1 (subst (Fits w h) (sym s.shape_is) s.fits) in
      (b.0, b.1, b.2 ∙ s.shape_is, subst (λ n. (b.0).sum ≤ n) s.sum_is b.3)

  -- an entry is in the table exactly where its sum is the least of its shape
  pub table_least : (op : Operator) (l r : CoverPart) (e : Entry) → Among e (table c w h op l r) ↔ IsLeast c w h (Join op l r) e.shape e.sum
  table_least op l r e = (least, there)
    where
      one : (x y : Entry) → Among x (table c w h op l r) → Among y (table c w h op l r) → x.shape ≡ y.shape → x.sum ≡ y.sum
      one x y at_x at_y same =
          let es = combined c op (arm_entries c w h l) (arm_entries c w h r) in
          same_Some x.sum y.sum (sym (table_best w h es x at_x).1 ∙ ap (best es) same ∙ (table_best w h es y at_y).1)

      least : Among e (table c w h op l r) → IsLeast c w h (Join op l r) e.shape e.sum
      least at = record {
        reached = table_sum op l r (arm_reached_in l) (arm_reached_in r) e at;
        least = λ other s. let b = sum_bounded op l r e.shape other s in subst (λ n. n ≤ other) (one b.0 e b.1 at b.2) b.3;
      }

      there : IsLeast c w h (Join op l r) e.shape e.sum → Among e (table c w h op l r)
      there is =
          let b = sum_bounded op l r e.shape e.sum is.reached in
          let s = table_sum op l r (arm_reached_in l) (arm_reached_in r) b.0 b.1 in
          let low = is.least (b.0).sum (subst (λ shape. IsSum c w h (Join op l r) shape (b.0).sum) b.2 s) in
          subst (λ x. Among x (table c w h op l r)) (λ i. record { shape = b.2 i; sum = le_antisymm b.3 low i }) b.1

  -- and a root costs at least this exactly where it is read off
  pub root_reached : (op : Operator) (l r : CoverPart) (m : ℕ) → root_of c w h op l r ≡ Some m → IsRootCost c w h (Join op l r) m
  root_reached op l r = root_reached_by op l r (arm_reached_in l) (arm_reached_in r)

  pub root_bounded : (op : Operator) (l r : CoverPart) (n : ℕ) → IsRootCost c w h (Join op l r) n → AtMost (root_of c w h op l r) n
  root_bounded op l r n x = root_bounded_by op l r (arm_bounded_in l) (arm_bounded_in r) x.cover x.root x.covers n x.cost_is

  pub root_least : (op : Operator) (l r : CoverPart) (m : ℕ) → (root_of c w h op l r ≡ Some m) ↔ IsLeastRoot c w h (Join op l r) m
  root_least op l r m = (least, there)
    where
      least : root_of c w h op l r ≡ Some m → IsLeastRoot c w h (Join op l r) m
      least e = record {
        reached = root_reached op l r m e;
        least = λ other x. let b = root_bounded op l r other x in let same = same_Some b.0 m (sym b.1 ∙ e) in omega (arith, b.2, same);
      }

      there : IsLeastRoot c w h (Join op l r) m → root_of c w h op l r ≡ Some m
      there is =
          let b = root_bounded op l r m is.reached in
          let low = is.least b.0 (root_reached op l r b.0 b.1) in
          b.1 ∙ ap Some (le_antisymm b.2 low)
