-- The chosen plan costs least.
use Rattle.dom_base.proofs.Bools.{never, not_true}
use Rattle.std.proofs.lemmas.Option.{same_Some, slice_get-get_or, slice_get_cases, slice_get_within}
use Rattle.std.proofs.Common.{◌≡◌, inl, inr, refl, sym, ap, subst, ◌∙◌, ℕ, ◌+◌, ◌≤◌, ◌<◌, Bool, true, false, cond, List, length, Some, slice_get, arith, get_or}
use Rattle.sp_network.specs.Tree.{Leaf, Parallel, Series}
use Rattle.dual_rail.specs.declared.forest.Arm.{Arm}
use Rattle.dual_rail.specs.declared.forest.Pair.{Pair}
use Rattle.dual_rail.specs.declared.forest.Pair.TheVariants.{And, Or}
use Rattle.dual_rail.specs.ForestData.{ForestData}
use Rattle.dual_rail.specs.ForestOrder.{AreInOrder}
use Rattle.dual_rail.specs.Forests.{left_arm, right_arm}
use Rattle.cover_plan.specs.Parts.{Choice, CoverPart, CutOff, Fits, InParallel, Join, Keep, Nothing, TreeShape, joined_shape, leaf_shape}
use Rattle.compound_plan.specs.PlanParts.{IsPartOf, IsTaken, free, literal as end_literal, operator_of, shared}
use Rattle.compound_plan.specs.PlanTrees.{is_free, is_kept}
use Rattle.compound_plan.proofs.PlanParts.{part_one}
use Rattle.compound_plan.proofs.Roots.{all_among, root_among}
use Rattle.compound_plan.proofs.FreePairs.{is_free-not, is_free-of, is_free-true}
use Rattle.compound_plan.proofs.Tallies.{arm_value, tally, tally_total}
use Rattle.compound_plan.proofs.Totals.{total, total_le}
use Rattle.cover_plan.specs.Covers.{AreFirst, Costs, IsChosenCover, IsCompoundRoot, IsCover, IsRoot, IsRootCost, IsRootShape, IsSimpleRoot, MaySplit, shape_of, sum_of}
use Rattle.compound_plan.specs.Plans.{AreWithin, CellTrees, Compound, IsCellOf, IsChosenPlan, IsDecided, IsLeastPlan, IsPlan, Simple, cost}
use Rattle.cover_plan.proofs.Sums.{joined-is, series_of, split_series}
use Rattle.cover_plan.proofs.Chosen.{chosen_is, cover_some}
use Rattle.compound_plan.proofs.PlanCosts.{arm_leaf, own_cost, plan_cost, sums_below}
use Rattle.compound_plan.proofs.PlanCovers.{cover_of, done_with, tree_shape}
use Rattle.cover_plan.proofs.Recurrence.{root_bounded, root_least}

-- where there are compound roots, an Or may be one
may_parallel : (c : Costs) → c.splits ≡ true → MaySplit c InParallel
may_parallel c e = rw e refl

module _ (c : Costs) (forest : ForestData) (w h : ℕ) (kept split : List Bool) (cells : List CellTrees) (order : AreInOrder forest.pairs) (plan : IsPlan c forest w h kept split cells) where
  cell_at : (p : ℕ) (pair : Pair) → slice_get forest.pairs p ≡ Some pair → is_kept kept p ≡ false → (cell : CellTrees) × IsCellOf forest kept split p cell × AreWithin w h cell
  cell_at p pair e root =
      let found = root_among (IsCellOf forest kept split) (is_kept kept) 0 (length kept) p cells plan.cells_are (omega arith) (let lt = slice_get_within forest.pairs p pair e in omega (arith, plan.one_each)) root in
      (found.0, found.2, all_among (AreWithin w h) found.0 cells plan.within found.1)

  -- the tree of a simple root is within the bounds
  simple_fits : (p : ℕ) (pair : Pair) → slice_get forest.pairs p ≡ Some pair → is_kept kept p ≡ false → is_kept split p ≡ false → {l r : CoverPart} (dl : IsPartOf forest (left_arm pair) l) (dr : IsPartOf forest (right_arm pair) r)
      → Fits w h (joined_shape (operator_of pair) (shape_of l (cover_of forest kept split dl)) (shape_of r (cover_of forest kept split dr)))
  simple_fits p pair e root unmarked {l} {r} dl dr =
      let x = cell_at p pair e root in by x.0 x.1 x.2
    where
      by : (t : CellTrees) → IsCellOf forest kept split p t → AreWithin w h t
          → Fits w h (joined_shape (operator_of pair) (shape_of l (cover_of forest kept split dl)) (shape_of r (cover_of forest kept split dr)))
      by (Compound x y) t in_ = absurd (never t.0 unmarked)
      by (Simple (Leaf gate)) (u, t) in_ = absurd t
      by (Simple (Series x y)) (u, (a, b, at, tx, ty)) in_ =
          let is : pair ≡ And a b = same_Some pair (And a b) (sym e ∙ at) in
          let one = tree_shape forest kept split plan.free tx dl (ap left_arm is) in
          let two = tree_shape forest kept split plan.free ty dr (ap right_arm is) in
          subst (λ op. Fits w h (joined_shape op (shape_of l (cover_of forest kept split dl)) (shape_of r (cover_of forest kept split dr)))) (sym (ap operator_of is))
          (omega (arith, in_.0, one.1, two.1), omega (arith, in_.1, one.0, two.0))
      by (Simple (Parallel x y)) (u, (a, b, at, tx, ty)) in_ =
          let is : pair ≡ Or a b = same_Some pair (Or a b) (sym e ∙ at) in
          let one = tree_shape forest kept split plan.free tx dl (ap left_arm is) in
          let two = tree_shape forest kept split plan.free ty dr (ap right_arm is) in
          subst (λ op. Fits w h (joined_shape op (shape_of l (cover_of forest kept split dl)) (shape_of r (cover_of forest kept split dr)))) (sym (ap operator_of is))
          (omega (arith, in_.0, one.1, two.1), omega (arith, in_.1, one.0, two.0))

  -- and so is each arm of a compound root, which is an Or
  compound_fits : (p : ℕ) (pair : Pair) → slice_get forest.pairs p ≡ Some pair → is_kept split p ≡ true → {l r : CoverPart} (dl : IsPartOf forest (left_arm pair) l) (dr : IsPartOf forest (right_arm pair) r)
      → MaySplit c (operator_of pair) × Fits w h (shape_of l (cover_of forest kept split dl)) × Fits w h (shape_of r (cover_of forest kept split dr))
  compound_fits p pair e marked {l} {r} dl dr =
      let x = cell_at p pair e (plan.marked p marked).0 in by x.0 x.1 x.2
    where
      by : (t : CellTrees) → IsCellOf forest kept split p t → AreWithin w h t
          → MaySplit c (operator_of pair) × Fits w h (shape_of l (cover_of forest kept split dl)) × Fits w h (shape_of r (cover_of forest kept split dr))
      by (Simple x) t in_ = absurd (never marked t.0)
      by (Compound x y) (u, (a, b, at, tx, ty)) in_ =
          let is : pair ≡ Or a b = same_Some pair (Or a b) (sym e ∙ at) in
          let one = tree_shape forest kept split plan.free tx dl (ap left_arm is) in
          let two = tree_shape forest kept split plan.free ty dr (ap right_arm is) in (
            subst (MaySplit c) (sym (ap operator_of is)) (may_parallel c (plan.marked p marked).1),
            (let i = in_.0.0 in let j = in_.0.1 in (omega (arith, i, one.1), omega (arith, j, one.0))),
            (let i = in_.1.0 in let j = in_.1.1 in (omega (arith, i, two.1), omega (arith, j, two.0))),
          )

  -- a plan gives each part a cover
  done_cover : (p : ℕ) (pair : Pair) → slice_get forest.pairs p ≡ Some pair → {l r : CoverPart} (dl : IsPartOf forest (left_arm pair) l) (dr : IsPartOf forest (right_arm pair) r)
      → IsCover c w h l (cover_of forest kept split dl) → IsCover c w h r (cover_of forest kept split dr)
      → IsCover c w h (Join (operator_of pair) l r) (done_with (is_kept kept p) (is_kept split p) (cover_of forest kept split dl) (cover_of forest kept split dr))
  done_cover p pair e {l} {r} dl dr x y = by (is_kept kept p) (is_kept split p) refl refl
    where
      by : (b d : Bool) → is_kept kept p ≡ b → is_kept split p ≡ d
          → IsCover c w h (Join (operator_of pair) l r) (done_with b d (cover_of forest kept split dl) (cover_of forest kept split dr))
      by true d k m = (x, y)
      by false false k m = (x, y, simple_fits p pair e k m dl dr)
      by false true k m = let f = compound_fits p pair e m dl dr in (x, y, f.0, f.1, f.2)

  pub arm_cover : {arm : Arm} {part : CoverPart} (d : IsPartOf forest arm part) → IsCover c w h part (cover_of forest kept split d)
  unfolding cover_of
  arm_cover end_literal = tt
  arm_cover (shared never) = tt
  arm_cover (free {place = p} {pair = pair} is e dl dr) = done_cover p pair e dl dr (arm_cover dl) (arm_cover dr)

  -- what the part below a pair costs, but for the leaf that it may be above
  pub below : ℕ → ℕ
  below = tally forest.pairs (is_free forest) (own_cost c forest kept split order)

  abbrev leaf : Arm → ℕ
  leaf = arm_leaf c forest kept split order

  abbrev handed : Arm → ℕ
  handed = arm_value (λ q. cond (is_free forest q) (below q) 0)

  below-is : (p : ℕ) (pair : Pair) → slice_get forest.pairs p ≡ Some pair
      → below p ≡ cond (is_kept kept p) 0 (cond (is_kept split p) c.compound c.simple) + (series_of c (operator_of pair) + (leaf (left_arm pair) + leaf (right_arm pair)))
      + (handed (left_arm pair) + handed (right_arm pair))
  unfolding below
  below-is p pair e = sums_below c forest kept split order (is_free forest) p pair e

  -- the sum of what is done with a pair, by those of its arms
  done_sum : (p : ℕ) (pair : Pair) → slice_get forest.pairs p ≡ Some pair → {l r : CoverPart} (dl : IsPartOf forest (left_arm pair) l) (dr : IsPartOf forest (right_arm pair) r)
      → sum_of c l (cover_of forest kept split dl) ≡ leaf (left_arm pair) + handed (left_arm pair)
      → sum_of c r (cover_of forest kept split dr) ≡ leaf (right_arm pair) + handed (right_arm pair)
      → sum_of c (Join (operator_of pair) l r) (done_with (is_kept kept p) (is_kept split p) (cover_of forest kept split dl) (cover_of forest kept split dr)) ≡ cond (is_kept kept p) 0 1 + below p
  done_sum p pair e {l} {r} dl dr x y =
      by (is_kept kept p) (is_kept split p) refl ∙ ap (λ n. cond (is_kept kept p) 0 1 + n) (sym (below-is p pair e))
    where
      by : (b d : Bool) → is_kept split p ≡ d
          → sum_of c (Join (operator_of pair) l r) (done_with b d (cover_of forest kept split dl) (cover_of forest kept split dr))
          ≡ cond b 0 1 + (cond b 0 (cond d c.compound c.simple) + (series_of c (operator_of pair) + (leaf (left_arm pair) + leaf (right_arm pair))) + (handed (left_arm pair) + handed (right_arm pair)))
      by true d m = joined-is c (operator_of pair) (sum_of c l (cover_of forest kept split dl)) (sum_of c r (cover_of forest kept split dr)) ∙ plus _ _ _ _ _ _ _ x y
        where
          plus : (u v s la lb va vb : ℕ) → u ≡ la + va → v ≡ lb + vb → u + v + s ≡ 0 + (0 + (s + (la + lb)) + (va + vb))
          plus u v s la lb va vb p q = omega (arith, p, q)
      by false false m =
          ap (λ n. 1 + (n + c.simple)) (joined-is c (operator_of pair) (sum_of c l (cover_of forest kept split dl)) (sum_of c r (cover_of forest kept split dr))) ∙ plus _ _ _ _ _ _ _ c.simple x y
        where
          plus : (u v s la lb va vb k : ℕ) → u ≡ la + va → v ≡ lb + vb → 1 + (u + v + s + k) ≡ 1 + (k + (s + (la + lb)) + (va + vb))
          plus u v s la lb va vb k p q = omega (arith, p, q)
      by false true m = plus _ _ _ _ _ _ _ c.compound x y (split_series c (operator_of pair) (compound_fits p pair e m dl dr).0)
        where
          plus : (u v s la lb va vb k : ℕ) → u ≡ la + va → v ≡ lb + vb → s ≡ 0 → 1 + (u + v + k) ≡ 1 + (k + (s + (la + lb)) + (va + vb))
          plus u v s la lb va vb k p q z = omega (arith, p, q, z)

  arm_sum : {arm : Arm} {part : CoverPart} (d : IsPartOf forest arm part) → sum_of c part (cover_of forest kept split d) ≡ leaf arm + handed arm
  unfolding cover_of
  arm_sum end_literal = omega arith
  arm_sum (shared {place = p} never) = rw (is_free-not forest p never) (by (is_kept kept p) refl)
    where
      by : (b : Bool) → is_kept kept p ≡ b → 1 ≡ cond b 0 1 + 0
      by true k = absurd (never (plan.free p k))
      by false k = refl
  arm_sum (free {place = p} {pair = pair} is e dl dr) = rw (is_free-of forest p is) (done_sum p pair e dl dr (arm_sum dl) (arm_sum dr))

  -- a pair that no free edge leads to is a root at this cost
  not_kept : (p : ℕ) → is_free forest p ≡ false → is_kept kept p ≡ false
  not_kept p head = not_true (is_kept kept p) (λ k. never (is_free-of forest p (plan.free p k)) head)

  pub head_cost : (p : ℕ) (pair : Pair) → slice_get forest.pairs p ≡ Some pair → is_free forest p ≡ false → {l r : CoverPart} (dl : IsPartOf forest (left_arm pair) l) (dr : IsPartOf forest (right_arm pair) r)
      → IsCover c w h (Join (operator_of pair) l r) (done_with false (is_kept split p) (cover_of forest kept split dl) (cover_of forest kept split dr))
      × (sum_of c (Join (operator_of pair) l r) (done_with false (is_kept split p) (cover_of forest kept split dl) (cover_of forest kept split dr)) ≡ 1 + below p)
  head_cost p pair e head dl dr =
      let k = not_kept p head in (
        rw k at (done_cover p pair e dl dr (arm_cover dl) (arm_cover dr)),
        rw k at (done_sum p pair e dl dr (arm_sum dl) (arm_sum dr)),
      )

  pub head_root : (p : ℕ) (pair : Pair) → slice_get forest.pairs p ≡ Some pair → is_free forest p ≡ false → {l r : CoverPart} (dl : IsPartOf forest (left_arm pair) l) (dr : IsPartOf forest (right_arm pair) r)
      → IsRootCost c w h (Join (operator_of pair) l r) (below p)
  head_root p pair e head dl dr =
      let x = head_cost p pair e head dl dr in
      record { cover = _; root = by (is_kept split p); covers = x.0; cost_is = x.1 }
    where
      by : (b : Bool) → IsRoot (done_with false b (cover_of forest kept split dl) (cover_of forest kept split dr))
      by true = tt
      by false = tt

  -- the plan costs what the pairs cost that no free edge leads to
  pub heads_cost : cost c cells ≡ total (λ p. cond (is_free forest p) 0 (below p)) 0 (length forest.pairs)
  unfolding below
  heads_cost =
      plan_cost c forest kept split order w h cells plan
      ∙ sym (tally_total forest.pairs order (is_free forest) (own_cost c forest kept split order) (λ q lt e. (is_free-true forest q e).0))

-- the chosen plan gives the part below an arm the chosen cover
module _ (c : Costs) (forest : ForestData) (w h : ℕ) (kept split : List Bool) (cells : List CellTrees) (is : IsChosenPlan c forest w h kept split cells) where
  -- what is decided, over the parts below the arms
  pub over : (p : ℕ) (pair : Pair) (s : TreeShape) (d : IsDecided c forest w h kept split is.shapes p pair s) {l r : CoverPart} (dl : IsPartOf forest (left_arm pair) l) (dr : IsPartOf forest (right_arm pair) r)
      → (P : CoverPart → CoverPart → Type 0) → P d.l d.r → P l r
  over p pair s d {l} {r} dl dr P x = subst (λ m. P m r) (part_one forest d.left_part dl refl) (subst (λ m. P d.l m) (part_one forest d.right_part dr refl) x)

  pub unmarked : (p : ℕ) → is_kept kept p ≡ true → is_kept split p ≡ false
  unmarked p k = not_true (is_kept split p) (λ m. never k (is.plan.marked p m).0)

  -- a root has the chosen cover where its arms have
  root_chosen : (p : ℕ) (pair : Pair) (s : TreeShape) (d : IsDecided c forest w h kept split is.shapes p pair s) → is_kept kept p ≡ false
      → {l r : CoverPart} (dl : IsPartOf forest (left_arm pair) l) (dr : IsPartOf forest (right_arm pair) r)
      → IsChosenCover c w h l d.left (cover_of forest kept split dl) → IsChosenCover c w h r d.right (cover_of forest kept split dr)
      → IsChosenCover c w h (Join (operator_of pair) l r) CutOff (done_with false (is_kept split p) (cover_of forest kept split dl) (cover_of forest kept split dr))
  root_chosen p pair s d k {l} {r} dl dr x y = by (is_kept split p) refl
    where
      by : (b : Bool) → is_kept split p ≡ b → IsChosenCover c w h (Join (operator_of pair) l r) CutOff (done_with false b (cover_of forest kept split dl) (cover_of forest kept split dr))
      by false m =
          let root = over p pair s d dl dr (λ l r. (is : IsRootShape c w h (Join (operator_of pair) l r) s) × IsSimpleRoot c w h (Join (operator_of pair) l r) is.sum) (d.root k m) in
          (s, root.0, root.1, (d.left, d.right, over p pair s d dl dr (λ l r. AreFirst c w h (operator_of pair) l r s d.left d.right) (d.first m), x, y))
      by true m = (d.left, d.right, over p pair s d dl dr (λ l r. IsCompoundRoot c w h (operator_of pair) l r d.left d.right) (d.compound m), x, y)

  shape_at : (p : ℕ) (pair : Pair) → slice_get forest.pairs p ≡ Some pair → (s : TreeShape) × (slice_get is.shapes p ≡ Some s)
  shape_at p pair e =
      let lt = slice_get_within forest.pairs p pair e in
      (get_or is.shapes p leaf_shape, slice_get-get_or is.shapes p leaf_shape (omega (arith, is.one_each)))

  pub chosen_cover : {arm : Arm} {part : CoverPart} (d : IsPartOf forest arm part) (x : Choice) → IsTaken forest kept is.shapes arm x → IsChosenCover c w h part x (cover_of forest kept split d)
  unfolding cover_of
  chosen_cover end_literal x taken = rw taken tt
  chosen_cover (shared {place = p} never) (Keep s) taken = absurd (never (is.plan.free p taken.0))
  chosen_cover (shared {place = p} never) CutOff taken = absurd (never taken.1)
  chosen_cover (shared {place = p} never) Nothing taken = tt
  chosen_cover (free {place = p} {pair = pair} fr e dl dr) Nothing taken = absurd (taken fr)
  chosen_cover (free {place = p} {pair = pair} fr e dl dr) (Keep s) (k, at) =
      let d = is.decided p pair s e at in
      rw k (
        d.left,
        d.right,
        over p pair s d dl dr (λ l r. AreFirst c w h (operator_of pair) l r s d.left d.right) (d.first (unmarked p k)),
        chosen_cover dl d.left d.takes_left,
        chosen_cover dr d.right d.takes_right,
      )
  chosen_cover (free {place = p} {pair = pair} fr e dl dr) CutOff (k, _) =
      let s = shape_at p pair e in
      let d = is.decided p pair s.0 e s.1 in
      rw k (root_chosen p pair s.0 d k dl dr (chosen_cover dl d.left d.takes_left) (chosen_cover dr d.right d.takes_right))

module _ (c : Costs) (forest : ForestData) (w h : ℕ) (kept split : List Bool) (cells : List CellTrees) (order : AreInOrder forest.pairs)
    (is : IsChosenPlan c forest w h kept split cells) where
  -- below a pair that no free edge leads to, the chosen plan costs no more than any other
  least_below : (other marks : List Bool) (more : List CellTrees) (plan : IsPlan c forest w h other marks more) (p : ℕ) → p < length forest.pairs → is_free forest p ≡ false
      → below c forest w h kept split cells order is.plan p ≤ below c forest w h other marks more order plan p
  least_below other marks more plan p lt head =
      elim (slice_get_cases forest.pairs p).1 [
        | inl found ↦ by found.0 found.2
        | inr past ↦ absurd (omega (arith, past.0))
      ]
    where
      by : (pair : Pair) → slice_get forest.pairs p ≡ Some pair → below c forest w h kept split cells order is.plan p ≤ below c forest w h other marks more order plan p
      by pair e =
          let s = shape_at c forest w h kept split cells is p pair e in
          let d = is.decided p pair s.0 e s.1 in
          let mine = head_root c forest w h kept split cells order is.plan p pair e head d.left_part d.right_part in
          let theirs = head_root c forest w h other marks more order plan p pair e head d.left_part d.right_part in
          let some = cover_some c w h (operator_of pair) d.l d.r mine.cover mine.root mine.covers in
          let m = root_bounded c w h some.0 some.1 (operator_of pair) d.l d.r (below c forest w h kept split cells order is.plan p) mine in
          let least = (root_least c w h some.0 some.1 (operator_of pair) d.l d.r m.0).0 m.1 in
          let chosen = root_chosen c forest w h kept split cells is p pair s.0 d (not_kept c forest w h kept split cells order is.plan p head) d.left_part d.right_part
          (chosen_cover c forest w h kept split cells is d.left_part d.left d.takes_left) (chosen_cover c forest w h kept split cells is d.right_part d.right d.takes_right) in
          let sum = (chosen_is c w h (Join (operator_of pair) d.l d.r) CutOff _ leaf_shape (1 + m.0) (refl, (m.0, least, refl)) chosen).2 in
          let own = (head_cost c forest w h kept split cells order is.plan p pair e head d.left_part d.right_part).1 in
          let low = least.least (below c forest w h other marks more order plan p) theirs in
          let same : 1 + below c forest w h kept split cells order is.plan p ≡ 1 + m.0 = sym own ∙ sum in
          omega (arith, low, same)

  pub chosen_plan_least : IsLeastPlan c forest w h kept split cells
  chosen_plan_least = record {
    plan = is.plan;
    least = λ other marks more plan.
        let mine = heads_cost c forest w h kept split cells order is.plan in
        let theirs = heads_cost c forest w h other marks more order plan in
        let low = total_le (λ p. cond (is_free forest p) 0 (below c forest w h kept split cells order is.plan p)) (λ p. cond (is_free forest p) 0 (below c forest w h other marks more order plan p)) 0 (length forest.pairs)
        (λ p from to. each other marks more plan p (omega arith) (is_free forest p) refl) in
        omega (arith, mine, theirs, low);
  }
    where
      each : (other marks : List Bool) (more : List CellTrees) (plan : IsPlan c forest w h other marks more) (p : ℕ) → p < length forest.pairs → (b : Bool) → is_free forest p ≡ b
          → cond b 0 (below c forest w h kept split cells order is.plan p) ≤ cond b 0 (below c forest w h other marks more order plan p)
      each other marks more plan p lt true e = omega arith
      each other marks more plan p lt false e = least_below other marks more plan p lt e
