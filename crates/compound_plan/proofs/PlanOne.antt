-- A forest has at most one chosen plan.
use Rattle.std.proofs.Common.{◌≡◌, ◌⊎◌, inl, inr, refl, sym, ap, ap₂, subst, ◌∙◌, ℕ, zero, suc, ◌+◌, ◌≤◌, ◌<◌, Bool, true, false, List, length, Some, slice_get, get_or, arith}
use Rattle.std.specs.List.{AllZip}
use Rattle.std.proofs.lemmas.List.{ext_get_or}
use Rattle.std.proofs.lemmas.Option.{slice_get_within, slice_get-get_or, slice_get_cases, same_Some}
use Rattle.dom_base.proofs.Bools.{never, not_true}
use Rattle.dom_base.proofs.Lists.{AllZip-one}
use Rattle.dual_rail.specs.declared.forest.Arm.TheVariants.{Pair as pair_arm}
use Rattle.dual_rail.specs.declared.forest.Pair.{Pair}
use Rattle.dual_rail.specs.declared.forest.Pair.TheVariants.{Or}
use Rattle.dual_rail.specs.ForestData.{ForestData}
use Rattle.dual_rail.specs.ForestOrder.{AreInOrder, ReadsBefore}
use Rattle.dual_rail.specs.Forests.{left_arm, right_arm}
use Rattle.cover_plan.specs.Parts.{Choice, CoverPart, CutOff, Join, Keep, Nothing, TreeShape, leaf_shape}
use Rattle.compound_plan.specs.PlanParts.{IsTaken, operator_of}
use Rattle.compound_plan.specs.PlanTrees.{IsFree, is_free, is_kept, roots}
use Rattle.compound_plan.proofs.FreePairs.{is_free-of, is_free-true}
use Rattle.compound_plan.proofs.OneUser.{user}
use Rattle.compound_plan.proofs.PlanTrees.{arm_tree_one, tree_one}
use Rattle.cover_plan.specs.Covers.{AreFirst, Costs, IsCompoundRoot, IsRootShape, IsSimpleRoot}
use Rattle.compound_plan.specs.Plans.{CellTrees, Compound, IsCellOf, IsChosenPlan, Simple}
use Rattle.cover_plan.proofs.Chosen.{alone_one, first_one, not_both, root_shape_one}
use Rattle.compound_plan.proofs.LeastPlan.{over, unmarked}

module _ (c : Costs) (forest : ForestData) (w h : ℕ) (order : AreInOrder forest.pairs) (kept split other marks : List Bool) (cells more : List CellTrees)
    (a : IsChosenPlan c forest w h kept split cells) (b : IsChosenPlan c forest w h other marks more) where
  -- what both plans do with a pair
  abbrev Same : ℕ → Type 0
  Same p = (is_kept kept p ≡ is_kept other p) × (is_kept split p ≡ is_kept marks p)
      × (is_kept split p ≡ false → get_or a.shapes p leaf_shape ≡ get_or b.shapes p leaf_shape)

  not_kept : (ks : List Bool) → ((q : ℕ) → is_kept ks q ≡ true → IsFree forest q) → (p : ℕ) → (IsFree forest p → ⊥) → is_kept ks p ≡ false
  not_kept ks free p none = not_true (is_kept ks p) (λ e. none (free p e))

  at_a : (p : ℕ) → p < length forest.pairs → slice_get a.shapes p ≡ Some (get_or a.shapes p leaf_shape)
  at_a p lt = slice_get-get_or a.shapes p leaf_shape (omega (arith, a.one_each))

  at_b : (p : ℕ) → p < length forest.pairs → slice_get b.shapes p ≡ Some (get_or b.shapes p leaf_shape)
  at_b p lt = slice_get-get_or b.shapes p leaf_shape (omega (arith, b.one_each))

  -- two roots at one pair are alike, and simple ones have one shape
  roots_same : (p : ℕ) (pair : Pair) → slice_get forest.pairs p ≡ Some pair → is_kept kept p ≡ false → is_kept other p ≡ false → Same p
  roots_same p pair e k k' =
      let lt = slice_get_within forest.pairs p pair e in
      let x = a.decided p pair (get_or a.shapes p leaf_shape) e (at_a p lt) in
      let y = b.decided p pair (get_or b.shapes p leaf_shape) e (at_b p lt) in
      let s = get_or a.shapes p leaf_shape in
      let root : is_kept split p ≡ false → (is : IsRootShape c w h (Join (operator_of pair) y.l y.r) s) × IsSimpleRoot c w h (Join (operator_of pair) y.l y.r) is.sum =
      λ m. over c forest w h kept split cells a p pair s x y.left_part y.right_part (λ l r. (is : IsRootShape c w h (Join (operator_of pair) l r) s) × IsSimpleRoot c w h (Join (operator_of pair) l r) is.sum) (x.root k m) in
      let compound : is_kept split p ≡ true → IsCompoundRoot c w h (operator_of pair) y.l y.r x.left x.right =
      λ m. over c forest w h kept split cells a p pair s x y.left_part y.right_part (λ l r. IsCompoundRoot c w h (operator_of pair) l r x.left x.right) (x.compound m) in
      by (is_kept split p) (is_kept marks p) refl refl s root compound (λ m. y.root k' m) (λ m. y.compound m)
    where
      by : (d d' : Bool) → is_kept split p ≡ d → is_kept marks p ≡ d' → {l r : CoverPart} → {x1 x2 y1 y2 : Choice} (s : TreeShape)
          → (is_kept split p ≡ false → (is : IsRootShape c w h (Join (operator_of pair) l r) s) × IsSimpleRoot c w h (Join (operator_of pair) l r) is.sum)
          → (is_kept split p ≡ true → IsCompoundRoot c w h (operator_of pair) l r x1 x2)
          → (is_kept marks p ≡ false → (is : IsRootShape c w h (Join (operator_of pair) l r) (get_or b.shapes p leaf_shape)) × IsSimpleRoot c w h (Join (operator_of pair) l r) is.sum)
          → (is_kept marks p ≡ true → IsCompoundRoot c w h (operator_of pair) l r y1 y2)
          → (is_kept kept p ≡ is_kept other p) × (is_kept split p ≡ is_kept marks p) × (is_kept split p ≡ false → s ≡ get_or b.shapes p leaf_shape)
      by false false m m' {l} {r} s root compound root' compound' =
          (k ∙ sym k', m ∙ sym m', (λ g. root_shape_one c w h (Join (operator_of pair) l r) s (get_or b.shapes p leaf_shape) (root m).0 (root' m').0))
      by true true m m' s root compound root' compound' = (k ∙ sym k', m ∙ sym m', (λ g. absurd (never m g)))
      by false true m m' {l} {r} {x1} {x2} {y1} {y2} s root compound root' compound' =
          absurd (not_both c w h (operator_of pair) l r s (root m).0 (root m).1 y1 y2 (compound' m'))
      by true false m m' {l} {r} {x1} {x2} {y1} {y2} s root compound root' compound' =
          absurd (not_both c w h (operator_of pair) l r (get_or b.shapes p leaf_shape) (root' m').0 (root' m').1 x1 x2 (compound m))

  -- two plans that take one choice for an arm do the same with its pair
  taken_same : (p : ℕ) (pair : Pair) → slice_get forest.pairs p ≡ Some pair → IsFree forest p → (x : Choice) → IsTaken forest kept a.shapes (pair_arm p) x → IsTaken forest other b.shapes (pair_arm p) x → Same p
  taken_same p pair e free (Keep s) (k, at) (k', at') =
      let lt = slice_get_within forest.pairs p pair e in
      (k ∙ sym k', unmarked c forest w h kept split cells a p k ∙ sym (unmarked c forest w h other marks more b p k'), (λ m. same_Some _ _ (sym (at_a p lt) ∙ at) ∙ same_Some _ _ (sym at' ∙ at_b p lt)))
  taken_same p pair e free CutOff (k, is) (k', is') = roots_same p pair e k k'
  taken_same p pair e free Nothing never never' = absurd (never free)

  plans_same : (room p : ℕ) (pair : Pair) → slice_get forest.pairs p ≡ Some pair → length forest.pairs ≤ p + room → Same p
  plans_same zero p pair e le = absurd (let lt = slice_get_within forest.pairs p pair e in omega arith)
  plans_same (suc room) p pair e le = by (is_free forest p) refl (λ q x f le'. plans_same room q x f le')
    where
      by : (t : Bool) → is_free forest p ≡ t → ((q : ℕ) (x : Pair) → slice_get forest.pairs q ≡ Some x → length forest.pairs ≤ q + room → Same q) → Same p
      by false is later =
          let never : IsFree forest p → ⊥ = λ f. (let yes_free = is_free-of forest p f in cc) in
          roots_same p pair e (not_kept kept a.plan.free p never) (not_kept other b.plan.free p never)
      by true is later =
          let free = is_free-true forest p is in
          let u = user forest.pairs p (omega (arith, free.0)) in
          at_user u.0 u.1 u.2 u.3 free
        where
          at_user : (q : ℕ) (x : Pair) → slice_get forest.pairs q ≡ Some x → (left_arm x ≡ pair_arm p) ⊎ (right_arm x ≡ pair_arm p) → IsFree forest p → Same p
          at_user q x f arm free =
              let lt = slice_get_within forest.pairs q x f in
              let low = order q x f in
              let same = later q x f (above arm low) in
              let s = get_or b.shapes q leaf_shape in
              let d = a.decided q x (get_or a.shapes q leaf_shape) f (at_a q lt) in
              let d' = b.decided q x s f (at_b q lt) in
              let first : is_kept split q ≡ false → AreFirst c w h (operator_of x) d'.l d'.r s d.left d.right =
              λ m. over c forest w h kept split cells a q x (get_or a.shapes q leaf_shape) d d'.left_part d'.right_part (λ l r. AreFirst c w h (operator_of x) l r s d.left d.right)
              (subst (λ t. AreFirst c w h (operator_of x) d.l d.r t d.left d.right) (same.2 m) (d.first m)) in
              let alone : is_kept split q ≡ true → IsCompoundRoot c w h (operator_of x) d'.l d'.r d.left d.right =
              λ m. over c forest w h kept split cells a q x (get_or a.shapes q leaf_shape) d d'.left_part d'.right_part (λ l r. IsCompoundRoot c w h (operator_of x) l r d.left d.right) (d.compound m) in
              let choices = both (is_kept split q) refl same.1 first alone d'.first d'.compound in
              side arm d.left d.right d'.left d'.right d.takes_left d.takes_right d'.takes_left d'.takes_right choices.0 choices.1
            where
              above : (left_arm x ≡ pair_arm p) ⊎ (right_arm x ≡ pair_arm p) → ReadsBefore q (left_arm x) × ReadsBefore q (right_arm x) → length forest.pairs ≤ q + room
              above (inl g) low = let lt : p < q = subst (ReadsBefore q) g low.0 in omega arith
              above (inr g) low = let lt : p < q = subst (ReadsBefore q) g low.1 in omega arith

              -- the choices are the same, of a compound root and of the others
              both : (t : Bool) → is_kept split q ≡ t → is_kept split q ≡ is_kept marks q → {l r : CoverPart} {s : TreeShape} {x1 x2 y1 y2 : Choice}
                  → (is_kept split q ≡ false → AreFirst c w h (operator_of x) l r s x1 x2) → (is_kept split q ≡ true → IsCompoundRoot c w h (operator_of x) l r x1 x2)
                  → (is_kept marks q ≡ false → AreFirst c w h (operator_of x) l r s y1 y2) → (is_kept marks q ≡ true → IsCompoundRoot c w h (operator_of x) l r y1 y2)
                  → (x1 ≡ y1) × (x2 ≡ y2)
              both false m same {l} {r} {s} {x1} {x2} {y1} {y2} first alone first' alone' = first_one c w h (operator_of x) l r s x1 x2 y1 y2 (first m) (first' (sym same ∙ m))
              both true m same {l} {r} {s} {x1} {x2} {y1} {y2} first alone first' alone' =
                  let i = alone m in
                  let j = alone' (sym same ∙ m) in
                  (alone_one c w h l x1 y1 i.left_first j.left_first, alone_one c w h r x2 y2 i.right_first j.right_first)

              side : (left_arm x ≡ pair_arm p) ⊎ (right_arm x ≡ pair_arm p) → (l r l' r' : Choice) → IsTaken forest kept a.shapes (left_arm x) l → IsTaken forest kept a.shapes (right_arm x) r
                  → IsTaken forest other b.shapes (left_arm x) l' → IsTaken forest other b.shapes (right_arm x) r' → l ≡ l' → r ≡ r' → Same p
              side (inl g) l r l' r' tl tk tl' tk' el er =
                  taken_same p pair e free l' (subst (λ c. IsTaken forest kept a.shapes (pair_arm p) c) el (subst (λ m. IsTaken forest kept a.shapes m l) g tl)) (subst (λ m. IsTaken forest other b.shapes m l') g tl')
              side (inr g) l r l' r' tl tk tl' tk' el er =
                  taken_same p pair e free r' (subst (λ c. IsTaken forest kept a.shapes (pair_arm p) c) er (subst (λ m. IsTaken forest kept a.shapes m r) g tk)) (subst (λ m. IsTaken forest other b.shapes m r') g tk')

  same_at : (p : ℕ) → p < length forest.pairs → Same p
  same_at p lt =
      elim (slice_get_cases forest.pairs p).1 [
        | inl found ↦ plans_same (length forest.pairs) p found.0 found.2 (omega arith)
        | inr past ↦ absurd (omega (arith, past.0))
      ]

  pub kept_same : kept ≡ other
  kept_same = ext_get_or false kept other (a.plan.one_each ∙ sym b.plan.one_each) (λ p lt. (same_at p (omega (arith, lt, a.plan.one_each))).0)

  pub marks_same : split ≡ marks
  marks_same = ext_get_or false split marks (a.plan.mark_each ∙ sym b.plan.mark_each) (λ p lt. (same_at p (omega (arith, lt, a.plan.mark_each))).1)

-- a root has one cell
pub cell_one : (forest : ForestData) (kept split : List Bool) (p : ℕ) (s t : CellTrees) → IsCellOf forest kept split p s → IsCellOf forest kept split p t → s ≡ t
cell_one forest kept split p (Simple s) (Simple t) (m, x) (m', y) = ap Simple (tree_one forest kept p s t x y)
cell_one forest kept split p (Simple s) (Compound l r) (m, x) (m', y) = absurd (never m' m)
cell_one forest kept split p (Compound l r) (Simple s) (m, x) (m', y) = absurd (never m m')
cell_one forest kept split p (Compound l r) (Compound l' r') (m, (a, b, e, x, y)) (m', (a', b', e', x', y')) =
    let pair : Or a b ≡ Or a' b' = same_Some _ _ (sym e ∙ e') in
    let one : a ≡ a' = cc in
    let two : b ≡ b' = cc in
    ap₂ Compound (arm_tree_one forest kept x x' one) (arm_tree_one forest kept y y' two)

-- the chosen plan is one, and so are its marks and its cells
pub chosen_plan_one : (c : Costs) (forest : ForestData) (w h : ℕ) (kept split other marks : List Bool) (cells more : List CellTrees) → AreInOrder forest.pairs
    → IsChosenPlan c forest w h kept split cells → IsChosenPlan c forest w h other marks more → (kept ≡ other) × (split ≡ marks) × (cells ≡ more)
chosen_plan_one c forest w h kept split other marks cells more order a b =
    let same = kept_same c forest w h order kept split other marks cells more a b in
    let also = marks_same c forest w h order kept split other marks cells more a b in (
      same,
      also,
      AllZip-one (IsCellOf forest other marks) (λ p s t x y. cell_one forest other marks p s t x y) (roots other) cells more
          (subst (λ ks. AllZip (IsCellOf forest ks marks) (roots ks) cells) same (subst (λ ms. AllZip (IsCellOf forest kept ms) (roots kept) cells) also a.plan.cells_are)) b.plan.cells_are,
    )
