-- Kept free edges and compound roots whose trees' shapes fit are a plan.
use Rattle.gate_decompose.proofs.Rising.{among_get}
use Rattle.std.proofs.Common.{◌≡◌, inl, inr, refl, sym, ap, ap₂, subst, ◌∙◌, ℕ, zero, suc, ◌+◌, ◌≤◌, ◌<◌, max, Bool, true, false, not, cond, List, [], ◌∷◌, length, filter, Some, slice_get, get_or, arith}
use Rattle.dom_base.proofs.Bools.{never, not_true}
use Rattle.std.specs.List.{AllZip, range_with_len}
use Rattle.std.proofs.lemmas.Option.{slice_get-get_or, slice_get_cases, slice_get_within}
use Rattle.sp_network.specs.Tree.{Tree, Leaf, Series, Parallel, height, width}
use Rattle.dual_rail.specs.declared.forest.Arm.{Arm}
use Rattle.dual_rail.specs.declared.forest.Arm.TheVariants.{Literal, Pair as pair_arm}
use Rattle.dual_rail.specs.declared.forest.Pair.{Pair}
use Rattle.dual_rail.specs.declared.forest.Pair.TheVariants.{And, Or}
use Rattle.dual_rail.specs.ForestData.{ForestData}
use Rattle.dual_rail.specs.ForestOrder.{AreInOrder, ReadsBefore}
use Rattle.dual_rail.specs.Forests.{left_arm, right_arm}
use Rattle.gate_decompose.specs.Items.{Among}
use Rattle.cover_plan.specs.Parts.{Fits, InParallel, InSeries, Operator, TreeShape, joined_shape, leaf_shape}
use Rattle.compound_plan.specs.PlanParts.{operator_of}
use Rattle.compound_plan.specs.PlanParts.{arm_shape}
use Rattle.compound_plan.specs.PlanTrees.{IsArmTree, literal, cut, IsFree, IsTreeOf, is_kept, rail_gate}
use Rattle.cover_plan.specs.Covers.{Costs, MaySplit, is_parallel}
use Rattle.cover_plan.proofs.Sums.{split_parallel}
use Rattle.compound_plan.proofs.PlanParts.{taken_shape}
use Rattle.compound_plan.proofs.PlanTrees.{tree_below}
use Rattle.compound_plan.specs.Plans.{AreWithin, CellTrees, Compound, IsCellOf, IsChosenPlan, IsDecided, IsPlan, Simple}
use Rattle.cover_plan.proofs.Choices.{choice_reached}

-- the tree has this shape
abbrev pub HasShape : Tree ℕ → TreeShape → Type 0
HasShape tree shape = (height tree ≡ shape.height) × (width tree ≡ shape.width)

-- each pair that is not a compound root has the shape of its arms, within the bounds; a compound root is an Or each of whose arms fits
abbrev pub Fitting : ForestData → ℕ → ℕ → List Bool → List Bool → (ℕ → TreeShape) → ℕ → Pair → Type 0
Fitting forest w h kept split shape place pair =
    (is_kept split place ≡ false
    → (shape place ≡ joined_shape (operator_of pair) (arm_shape kept shape (left_arm pair)) (arm_shape kept shape (right_arm pair))) × Fits w h (shape place))
    × (is_kept split place ≡ true → (operator_of pair ≡ InParallel) × Fits w h (arm_shape kept shape (left_arm pair)) × Fits w h (arm_shape kept shape (right_arm pair)))

module _ (c : Costs) (forest : ForestData) (w h : ℕ) (kept split : List Bool) (shape : ℕ → TreeShape) (order : AreInOrder forest.pairs)
    (unmarked : (p : ℕ) → is_kept kept p ≡ true → is_kept split p ≡ false)
    (shapes : (place : ℕ) (pair : Pair) → slice_get forest.pairs place ≡ Some pair → Fitting forest w h kept split shape place pair) where
  TreeAt : ℕ → Type 0
  TreeAt p = is_kept split p ≡ false → (t : Tree ℕ) × IsTreeOf forest kept p t × HasShape t (shape p)

  arm_there : (p : ℕ) (arm : Arm) → ReadsBefore p arm → ((q : ℕ) → q < p → TreeAt q) → (t : Tree ℕ) × IsArmTree forest kept arm t × HasShape t (arm_shape kept shape arm)
  unfolding TreeAt
  arm_there p (Literal rail) low earlier = (Leaf (rail_gate rail), literal, (refl, refl))
  arm_there p (pair_arm q) low earlier = by (is_kept kept q) refl
    where
      by : (b : Bool) → is_kept kept q ≡ b → (t : Tree ℕ) × IsArmTree forest kept (pair_arm q) t × HasShape t (cond b (shape q) leaf_shape)
      by true k = let found = earlier q low (unmarked q k) in (found.0, tree_below forest kept q found.0 k found.1, found.2)
      by false k = (_, cut k, (refl, refl))

  tree_there : (room p : ℕ) → p < room → p < length forest.pairs → TreeAt p
  unfolding TreeAt
  tree_there zero p lt in_range = absurd (omega arith)
  tree_there (suc room) p lt in_range =
      elim (slice_get_cases forest.pairs p).1 [
        | inl found ↦ by found.0 found.2 (λ q low. tree_there room q (omega arith) (omega arith))
        | inr past ↦ absurd (omega (arith, past.0))
      ]
    where
      by : (pair : Pair) → slice_get forest.pairs p ≡ Some pair → ((q : ℕ) → q < p → TreeAt q) → is_kept split p ≡ false → (t : Tree ℕ) × IsTreeOf forest kept p t × HasShape t (shape p)
      by (And a b) e earlier m =
          let o = order p (And a b) e in
          let l = arm_there p a o.0 earlier in
          let r = arm_there p b o.1 earlier in
          let s = ((shapes p (And a b) e).0 m).0 in
          (Series l.0 r.0, (a, b, e, l.1, r.1), (ap₂ (λ m n. m + n) l.2.0 r.2.0 ∙ ap (λ (x : TreeShape). x.height) (sym s), ap₂ max l.2.1 r.2.1 ∙ ap (λ (x : TreeShape). x.width) (sym s)))
      by (Or a b) e earlier m =
          let o = order p (Or a b) e in
          let l = arm_there p a o.0 earlier in
          let r = arm_there p b o.1 earlier in
          let s = ((shapes p (Or a b) e).0 m).0 in
          (Parallel l.0 r.0, (a, b, e, l.1, r.1), (ap₂ max l.2.0 r.2.0 ∙ ap (λ (x : TreeShape). x.height) (sym s), ap₂ (λ m n. m + n) l.2.1 r.2.1 ∙ ap (λ (x : TreeShape). x.width) (sym s)))

  fitting : (p : ℕ) → p < length forest.pairs → (t : CellTrees) × IsCellOf forest kept split p t × AreWithin w h t
  unfolding TreeAt
  fitting p lt =
      elim (slice_get_cases forest.pairs p).1 [
        | inl found ↦ by found.0 found.2 (is_kept split p) refl
        | inr past ↦ absurd (omega (arith, past.0))
      ]
    where
      by : (pair : Pair) → slice_get forest.pairs p ≡ Some pair → (b : Bool) → is_kept split p ≡ b → (t : CellTrees) × IsCellOf forest kept split p t × AreWithin w h t
      by pair e false m =
          let f = ((shapes p pair e).0 m).1 in
          let t = tree_there (suc p) p (omega arith) lt m in
          (Simple t.0, (m, t.1), (omega (arith, f.0, t.2.1), omega (arith, f.1, t.2.0)))
      by (And a b) e true m = absurd (let f = ((shapes p (And a b) e).1 m).0 in cc)
      by (Or a b) e true m =
          let f = (shapes p (Or a b) e).1 m in
          let o = order p (Or a b) e in
          let l = arm_there p a o.0 (λ q low. tree_there (suc q) q (omega arith) (omega arith)) in
          let r = arm_there p b o.1 (λ q low. tree_there (suc q) q (omega arith) (omega arith)) in
          let i = f.1 in
          let j = f.2 in
          (Compound l.0 r.0, (m, (a, b, e, l.1, r.1)), ((omega (arith, i.0, l.2.1), omega (arith, i.1, l.2.0)), (omega (arith, j.0, r.2.1), omega (arith, j.1, r.2.0))))

  cells_there : (a m : ℕ) → a + m ≤ length forest.pairs
      → (ts : List CellTrees) × AllZip (IsCellOf forest kept split) (filter (λ place. not (is_kept kept place)) (range_with_len a m)) ts × ((t : CellTrees) → Among t ts → AreWithin w h t)
  cells_there a zero le = ([], tt, λ t at. absurd at)
  cells_there a (suc m) le = by (is_kept kept a) (cells_there (a + 1) m (omega arith)) (fitting a (omega arith))
    where
      by : (b : Bool)
          → (ts : List CellTrees) × AllZip (IsCellOf forest kept split) (filter (λ place. not (is_kept kept place)) (range_with_len (a + 1) m)) ts × ((t : CellTrees) → Among t ts → AreWithin w h t)
          → (t : CellTrees) × IsCellOf forest kept split a t × AreWithin w h t
          → (ts : List CellTrees) × AllZip (IsCellOf forest kept split) (cond (not b) (a ∷ filter (λ place. not (is_kept kept place)) (range_with_len (a + 1) m)) (filter (λ place. not (is_kept kept place)) (range_with_len (a + 1) m))) ts
          × ((t : CellTrees) → Among t ts → AreWithin w h t)
      by true more one = more
      by false more one = (one.0 ∷ more.0, (one.1, more.1), each)
        where
          each : (t : CellTrees) → Among t (one.0 ∷ more.0) → AreWithin w h t
          each t (inl e) = subst (AreWithin w h) e one.2
          each t (inr at) = more.2 t at

  pub plan_there : length kept ≡ length forest.pairs → length split ≡ length forest.pairs → ((place : ℕ) → is_kept kept place ≡ true → IsFree forest place)
      → ((place : ℕ) → is_kept split place ≡ true → (is_kept kept place ≡ false) × (c.splits ≡ true)) → (cells : List CellTrees) × IsPlan c forest w h kept split cells
  plan_there one_each mark_each free marked =
      let r = cells_there 0 (length kept) (omega arith) in (
        r.0,
        record {
          one_each = one_each;
          mark_each = mark_each;
          free = free;
          marked = marked;
          cells_are = r.1;
          within = λ k d lt. r.2 (get_or r.0 k d) (among_get r.0 k d lt);
        },
      )

or_only : (c : Costs) (op : Operator) → MaySplit c op → (op ≡ InParallel) × (c.splits ≡ true)
or_only c op m = let both = split_parallel c op m in (by op both.1, both.0)
  where
    by : (op : Operator) → is_parallel op ≡ true → op ≡ InParallel
    by InSeries e = absurd (cc)
    by InParallel e = refl

-- kept free edges, compound roots and shapes that the ties decide pair by pair are the chosen plan
pub decided_plan : (c : Costs) (forest : ForestData) (w h : ℕ) → 1 ≤ w → 1 ≤ h → (kept split : List Bool) (shapes : List TreeShape) → AreInOrder forest.pairs
    → length kept ≡ length forest.pairs → length split ≡ length forest.pairs → length shapes ≡ length forest.pairs
    → ((place : ℕ) → is_kept kept place ≡ true → IsFree forest place) → ((place : ℕ) → is_kept split place ≡ true → (is_kept kept place ≡ false) × (place < length forest.pairs))
    → ((place : ℕ) (pair : Pair) (shape : TreeShape) → slice_get forest.pairs place ≡ Some pair → slice_get shapes place ≡ Some shape → IsDecided c forest w h kept split shapes place pair shape)
    → (cells : List CellTrees) × IsChosenPlan c forest w h kept split cells
decided_plan c forest w h wide tall kept split shapes order one_each mark_each same_length free marked decided =
    let plan = plan_there c forest w h kept split (λ p. get_or shapes p leaf_shape) order unmarked fits one_each mark_each free (λ p m. ((marked p m).0, may p m)) in
    (plan.0, record { plan = plan.1; shapes = shapes; one_each = same_length; decided = decided })
  where
    unmarked : (p : ℕ) → is_kept kept p ≡ true → is_kept split p ≡ false
    unmarked p k = not_true (is_kept split p) (λ m. never k (marked p m).0)

    at : (p : ℕ) → p < length forest.pairs → slice_get shapes p ≡ Some (get_or shapes p leaf_shape)
    at p lt = slice_get-get_or shapes p leaf_shape (omega arith)

    may : (p : ℕ) → is_kept split p ≡ true → c.splits ≡ true
    may p m =
        elim (slice_get_cases forest.pairs p).1 [
          | inl found ↦ (let d = decided p found.0 (get_or shapes p leaf_shape) found.2 (at p (marked p m).1) in (or_only c (operator_of found.0) (d.compound m).may).1)
          | inr past ↦ absurd (let lt = (marked p m).1 in omega (arith, past.0))
        ]

    fits : (place : ℕ) (pair : Pair) → slice_get forest.pairs place ≡ Some pair → Fitting forest w h kept split (λ p. get_or shapes p leaf_shape) place pair
    fits place pair e =
        let lt = slice_get_within forest.pairs place pair e in
        let d = decided place pair (get_or shapes place leaf_shape) e (at place lt) in (
          (λ m.
              let g = (d.first m).give in
              let left = taken_shape c forest w h kept shapes free (left_arm pair) d.l d.left g.left_shape g.left_sum d.takes_left g.is_left in
              let right = taken_shape c forest w h kept shapes free (right_arm pair) d.r d.right g.right_shape g.right_sum d.takes_right g.is_right in
              (sym g.shape_is ∙ ap₂ (joined_shape (operator_of pair)) left right, g.least.reached.fits)),
          (λ m.
              let k = d.compound m in
              let left = taken_shape c forest w h kept shapes free (left_arm pair) d.l d.left k.left_first.shape k.left_first.sum d.takes_left k.left_first.is in
              let right = taken_shape c forest w h kept shapes free (right_arm pair) d.r d.right k.right_first.shape k.right_first.sum d.takes_right k.right_first.is in (
                (or_only c (operator_of pair) k.may).0,
                subst (Fits w h) left (choice_reached c w h wide tall d.l d.left k.left_first.shape k.left_first.sum k.left_first.is).3,
                subst (Fits w h) right (choice_reached c w h wide tall d.r d.right k.right_first.shape k.right_first.sum k.right_first.is).3,
              )),
        )
