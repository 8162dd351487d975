-- The covers that a plan gives the parts of its forest.
use Rattle.std.proofs.lemmas.Option.{same_Some}
use Rattle.std.proofs.Common.{◌≡◌, refl, sym, ap, ap₂, subst, ◌∙◌, ℕ, ◌+◌, max, Bool, true, false, cond, List, slice_get}
use Rattle.sp_network.specs.Tree.{Tree, height, width}
use Rattle.dual_rail.specs.declared.forest.Arm.{Arm}
use Rattle.dual_rail.specs.declared.forest.Pair.TheVariants.{And, Or}
use Rattle.dual_rail.specs.ForestData.{ForestData}
use Rattle.dual_rail.specs.Forests.{left_arm, right_arm}
use Rattle.cover_plan.specs.Parts.{CoverPart, End, Join}
use Rattle.compound_plan.specs.PlanParts.{IsPartOf, literal as end_literal, shared, free, operator_of}
use Rattle.compound_plan.specs.PlanTrees.{IsArmTree, literal, cut, series, parallel, IsFree, is_kept}
use Rattle.cover_plan.specs.Covers.{Cover, Cut, Kept, Single, Split, shape_of}

-- what a plan does with a pair: kept, a compound root, or a simple one
abbrev pub done_with : Bool → Bool → Cover → Cover → Cover
done_with kept split a b = cond kept (Kept a b) (cond split (Split a b) (Cut a b))

-- the cover of the part below an arm that follows from a plan
unfoldable pub cover_of : (forest : ForestData) (kept split : List Bool) {arm : Arm} {part : CoverPart} → IsPartOf forest arm part → Cover
cover_of forest kept split end_literal = Single
cover_of forest kept split (shared never) = Single
cover_of forest kept split (free {place = p} is e l r) =
    done_with (is_kept kept p) (is_kept split p) (cover_of forest kept split l) (cover_of forest kept split r)

module _ (forest : ForestData) (kept split : List Bool) (only_free : (place : ℕ) → is_kept kept place ≡ true → IsFree forest place) where
  -- a pair that is not kept is a leaf
  leaf_height : (b : Bool) (t : CoverPart) (x y : Cover) → (1 ≡ (shape_of t (done_with false b x y)).height) × (1 ≡ (shape_of t (done_with false b x y)).width)
  leaf_height true End x y = (refl, refl)
  leaf_height true (Join op l r) x y = (refl, refl)
  leaf_height false End x y = (refl, refl)
  leaf_height false (Join op l r) x y = (refl, refl)

  -- the tree below an arm has the shape that its cover has
  pub tree_shape : {arm other : Arm} {tree : Tree ℕ} {part : CoverPart} → IsArmTree forest kept arm tree → (d : IsPartOf forest other part) → other ≡ arm
      → (height tree ≡ (shape_of part (cover_of forest kept split d)).height) × (width tree ≡ (shape_of part (cover_of forest kept split d)).width)
  unfolding cover_of
  tree_shape literal end_literal same = (refl, refl)
  tree_shape literal (shared never) same = absurd (cc)
  tree_shape literal (free is e l r) same = absurd (cc)
  tree_shape (cut k) end_literal same = absurd (cc)
  tree_shape (cut k) (shared never) same = (refl, refl)
  tree_shape (cut {place = p} k) (free {place = q} {pair = pair} {l = lp} {r = rp} is e l r) same =
      let here : q ≡ p = cc in rw (here, k) (leaf_height (is_kept split p) (Join (operator_of pair) lp rp) (cover_of forest kept split l) (cover_of forest kept split r))
  tree_shape (series k at x y) end_literal same = absurd (cc)
  tree_shape (series {place = p} k at x y) (shared {place = q} never) same = let here : q ≡ p = cc in absurd (never (subst (IsFree forest) (sym here) (only_free p k)))
  tree_shape (series {place = p} {a = a} {b = b} k at x y) (free {place = q} {pair = pair} is e l r) same =
      let here : q ≡ p = cc in
      let pair_is : pair ≡ And a b = same_Some _ _ (sym e ∙ ap (slice_get forest.pairs) here ∙ at) in
      let one = tree_shape x l (ap left_arm pair_is) in
      let two = tree_shape y r (ap right_arm pair_is) in
      rw (here, k, pair_is) (ap₂ (λ m n. m + n) one.0 two.0, ap₂ max one.1 two.1)
  tree_shape (parallel k at x y) end_literal same = absurd (cc)
  tree_shape (parallel {place = p} k at x y) (shared {place = q} never) same = let here : q ≡ p = cc in absurd (never (subst (IsFree forest) (sym here) (only_free p k)))
  tree_shape (parallel {place = p} {a = a} {b = b} k at x y) (free {place = q} {pair = pair} is e l r) same =
      let here : q ≡ p = cc in
      let pair_is : pair ≡ Or a b = same_Some _ _ (sym e ∙ ap (slice_get forest.pairs) here ∙ at) in
      let one = tree_shape x l (ap left_arm pair_is) in
      let two = tree_shape y r (ap right_arm pair_is) in
      rw (here, k, pair_is) (ap₂ max one.0 two.0, ap₂ (λ m n. m + n) one.1 two.1)
