-- The cells of a plan read rails and cells before them.
use Rattle.std.proofs.Common.{◌≡◌, refl, ap, subst, ◌∙◌, ℕ, zero, suc, ◌+◌, ◌-◌, ◌*◌, ◌≤◌, ◌<◌, Bool, true, false, not, cond, List, ◌∷◌, length, filter, Some, slice_get, arith}
use Rattle.std.specs.List.{range_with_len}
use Rattle.std.proofs.lemmas.List.Sums.{count_by_more_yes, count_by_more_no}
use Rattle.sp_network.specs.Tree.{Tree, Leaf, Series, Parallel, EachLeaf}
use Rattle.dual_rail.specs.declared.forest.Arm.{Arm}
use Rattle.dual_rail.specs.declared.forest.Arm.TheVariants.{Literal, Pair as pair_arm}
use Rattle.dual_rail.specs.declared.forest.Pair.TheVariants.{And, Or}
use Rattle.dual_rail.specs.declared.forest.Rail.{Rail}
use Rattle.dual_rail.specs.ForestData.{ForestData}
use Rattle.dual_rail.specs.ForestOrder.{AreInOrder, ReadsBefore}
use Rattle.dual_rail.specs.ForestOrder.{HasLeaves, ReadsLeaves}
use Rattle.tree_map.specs.Plans.{IsArmTree, literal, cut, series, parallel, IsTreeOf, cell_of, is_kept, rail_gate, roots}
use Rattle.std.proofs.lemmas.Option.{same_Some}

-- one place further on there is one more cell, or none
cell_step : (kept : List Bool) (p : ℕ) → p < length kept → cell_of kept (p + 1) ≡ cell_of kept p + cond (is_kept kept p) 0 1
cell_step kept p lt = by (is_kept kept p) refl
  where
    by : (b : Bool) → is_kept kept p ≡ b → cell_of kept (p + 1) ≡ cell_of kept p + cond b 0 1
    by true e = count_by_more_no not kept p false lt (ap not e) ∙ omega arith
    by false e = count_by_more_yes not kept p false lt (ap not e)

-- the cells of later places have no smaller numbers
pub cells_rise : (kept : List Bool) (p room : ℕ) → p + room ≤ length kept → cell_of kept p ≤ cell_of kept (p + room)
cells_rise kept p zero le = let here : p ≡ p + 0 = omega arith in subst (λ n. cell_of kept p ≤ cell_of kept n) here (omega arith)
cells_rise kept p (suc room) le =
    let earlier = cells_rise kept p room (omega arith) in
    let step = cell_step kept (p + room) (omega arith) in
    let here : p + room + 1 ≡ p + suc room = omega arith in
    subst (λ n. cell_of kept p ≤ cell_of kept n) here (omega (arith, earlier, step))

-- the cell of a root comes before that of a later place
pub cell_before : (kept : List Bool) (q p : ℕ) → q < p → p ≤ length kept → is_kept kept q ≡ false → cell_of kept q < cell_of kept p
cell_before kept q p lt le root =
    let step = cell_step kept q (omega arith) in
    let one : cell_of kept (q + 1) ≡ cell_of kept q + 1 = step ∙ ap (λ b. cell_of kept q + cond b 0 1) root in
    let room = p - (q + 1) in
    let rise = cells_rise kept (q + 1) room (omega arith) in
    let here : q + 1 + room ≡ p = omega arith in
    let last : cell_of kept (q + 1) ≤ cell_of kept p = subst (λ n. cell_of kept (q + 1) ≤ cell_of kept n) here rise in
    omega (arith, one, last)

-- the k-th root is the root of cell k
root_at : (kept : List Bool) (a m k p : ℕ) → a + m ≡ length kept → slice_get (filter (λ place. not (is_kept kept place)) (range_with_len a m)) k ≡ Some p
    → (cell_of kept p ≡ cell_of kept a + k) × (is_kept kept p ≡ false) × (p < length kept)
root_at kept a zero k p all at = absurd (cc)
root_at kept a (suc m) k p all at = by (is_kept kept a) refl k at (λ i e. root_at kept (a + 1) m i p (omega arith) e)
  where
    by : (b : Bool) → is_kept kept a ≡ b → (n : ℕ)
        → slice_get (cond (not b) (a ∷ filter (λ place. not (is_kept kept place)) (range_with_len (a + 1) m)) (filter (λ place. not (is_kept kept place)) (range_with_len (a + 1) m))) n ≡ Some p
        → ((i : ℕ) → slice_get (filter (λ place. not (is_kept kept place)) (range_with_len (a + 1) m)) i ≡ Some p → (cell_of kept p ≡ cell_of kept (a + 1) + i) × (is_kept kept p ≡ false) × (p < length kept))
        → (cell_of kept p ≡ cell_of kept a + n) × (is_kept kept p ≡ false) × (p < length kept)
    by true e n f more =
        let r = more n f in
        let step : cell_of kept (a + 1) ≡ cell_of kept a + 0 = cell_step kept a (omega arith) ∙ ap (λ b. cell_of kept a + cond b 0 1) e in
        (omega (arith, r.0, step), r.1, r.2)
    by false e zero f more =
        let here : a ≡ p = same_Some a p f in
        (subst (λ q. cell_of kept q ≡ cell_of kept a + 0) here (omega arith), subst (λ q. is_kept kept q ≡ false) here e, omega arith)
    by false e (suc n) f more =
        let r = more n f in
        let step : cell_of kept (a + 1) ≡ cell_of kept a + 1 = cell_step kept a (omega arith) ∙ ap (λ b. cell_of kept a + cond b 0 1) e in
        (omega (arith, r.0, step), r.1, r.2)

pub root_of_cell : (kept : List Bool) (k p : ℕ) → slice_get (roots kept) k ≡ Some p → (cell_of kept p ≡ k) × (is_kept kept p ≡ false) × (p < length kept)
root_of_cell kept k p at =
    let r = root_at kept 0 (length kept) k p (omega arith) at in
    let none : cell_of kept 0 ≡ 0 = refl in
    (omega (arith, r.0, none), r.1, r.2)

-- there are as many roots as cells before the end
roots_from : (kept : List Bool) (a m : ℕ) → a + m ≤ length kept → length (filter (λ place. not (is_kept kept place)) (range_with_len a m)) + cell_of kept a ≡ cell_of kept (a + m)
roots_from kept a zero le =
    let here : a ≡ a + 0 = omega arith in
    let same : cell_of kept a ≡ cell_of kept (a + 0) = ap (cell_of kept) here in
    omega arith
roots_from kept a (suc m) le =
    let more = roots_from kept (a + 1) m (omega arith) in
    let step = cell_step kept a (omega arith) in
    let here : a + 1 + m ≡ a + suc m = omega arith in
    let same : cell_of kept (a + 1 + m) ≡ cell_of kept (a + suc m) = ap (cell_of kept) here in
    by (is_kept kept a) (omega (arith, more, same)) step
  where
    by : (b : Bool) → length (filter (λ place. not (is_kept kept place)) (range_with_len (a + 1) m)) + cell_of kept (a + 1) ≡ cell_of kept (a + suc m)
        → cell_of kept (a + 1) ≡ cell_of kept a + cond b 0 1
        → length (cond (not b) (a ∷ filter (λ place. not (is_kept kept place)) (range_with_len (a + 1) m)) (filter (λ place. not (is_kept kept place)) (range_with_len (a + 1) m))) + cell_of kept a ≡ cell_of kept (a + suc m)
    by true e f = omega (arith, e, f)
    by false e f = omega (arith, e, f)

pub roots_count : (kept : List Bool) → length (roots kept) ≡ cell_of kept (length kept)
roots_count kept =
    let r = roots_from kept 0 (length kept) (omega arith) in
    let none : cell_of kept 0 ≡ 0 = refl in
    let here : 0 + length kept ≡ length kept = omega arith in
    subst (λ n. length (roots kept) ≡ cell_of kept n) here (omega (arith, r, none))

rail_below : (rail : Rail) (leaves : ℕ) → rail.leaf < leaves → rail_gate rail < 2 * leaves
rail_below rail leaves lt = by rail.plus
  where
    by : (b : Bool) → cond b (2 * rail.leaf) (2 * rail.leaf + 1) < 2 * leaves
    by true = omega arith
    by false = omega arith

module _ (forest : ForestData) (kept : List Bool) (order : AreInOrder forest.pairs) (leaves : HasLeaves forest) (p : ℕ) (high : p ≤ length kept) where
  -- the leaves of the tree below an arm of a place are rails and cells before the place
  arm_reads : {arm : Arm} {tree : Tree ℕ} → ReadsBefore p arm → ReadsLeaves forest.leaves arm → IsArmTree forest kept arm tree → EachLeaf (λ gate. gate < 2 * forest.leaves + cell_of kept p) tree
  arm_reads before low (literal {rail = rail}) = let lt = rail_below rail forest.leaves low in omega arith
  arm_reads before low (cut {place = q} k) = let lt = cell_before kept q p before high k in omega arith
  arm_reads before low (series {place = q} {a = a} {b = b} k e l r) =
      let o = order q (And a b) e in
      let f = leaves q (And a b) e in
      (arm_reads (later a o.0 before) f.0 l, arm_reads (later b o.1 before) f.1 r)
    where
      later : (c : Arm) → ReadsBefore q c → q < p → ReadsBefore p c
      later (Literal rail) h lt = tt
      later (pair_arm n) h lt = omega arith
  arm_reads before low (parallel {place = q} {a = a} {b = b} k e l r) =
      let o = order q (Or a b) e in
      let f = leaves q (Or a b) e in
      (arm_reads (later a o.0 before) f.0 l, arm_reads (later b o.1 before) f.1 r)
    where
      later : (c : Arm) → ReadsBefore q c → q < p → ReadsBefore p c
      later (Literal rail) h lt = tt
      later (pair_arm n) h lt = omega arith

  pub tree_reads : (tree : Tree ℕ) → IsTreeOf forest kept p tree → EachLeaf (λ gate. gate < 2 * forest.leaves + cell_of kept p) tree
  tree_reads (Leaf gate) t = absurd t
  tree_reads (Series l r) (a, b, e, x, y) =
      let o = order p (And a b) e in
      let f = leaves p (And a b) e in
      (arm_reads o.0 f.0 x, arm_reads o.1 f.1 y)
  tree_reads (Parallel l r) (a, b, e, x, y) =
      let o = order p (Or a b) e in
      let f = leaves p (Or a b) e in
      (arm_reads o.0 f.0 x, arm_reads o.1 f.1 y)
