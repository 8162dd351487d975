-- Each arm and each root has one tree.
use Rattle.std.proofs.lemmas.Option.{same_Some}
use Rattle.std.proofs.Common.{◌≡◌, sym, ap, ap₂, subst, ◌∙◌, ℕ, Bool, true, false, List, slice_get}
use Rattle.sp_network.specs.Tree.{Tree, Leaf, Series, Parallel}
use Rattle.dual_rail.specs.declared.forest.Arm.{Arm}
use Rattle.dual_rail.specs.declared.forest.Arm.TheVariants.{Pair as pair_arm}
use Rattle.dual_rail.specs.declared.forest.Pair.TheVariants.{And, Or}
use Rattle.dual_rail.specs.ForestData.{ForestData}
use Rattle.compound_plan.specs.PlanTrees.{IsArmTree, literal, cut, series, parallel, IsTreeOf, cell_gate, cell_of, is_kept, rail_gate}

-- the tree of a kept pair is the tree below the arm that names it
pub tree_below : (forest : ForestData) (kept : List Bool) (place : ℕ) (tree : Tree ℕ) → is_kept kept place ≡ true → IsTreeOf forest kept place tree
    → IsArmTree forest kept (pair_arm place) tree
tree_below forest kept place (Leaf gate) k is = absurd is
tree_below forest kept place (Series l r) k (a, b, at, x, y) = series k at x y
tree_below forest kept place (Parallel l r) k (a, b, at, x, y) = parallel k at x y

-- a plan has one tree below each arm
pub arm_tree_one : (forest : ForestData) (kept : List Bool) {arm other : Arm} {s t : Tree ℕ} → IsArmTree forest kept arm s → IsArmTree forest kept other t → arm ≡ other → s ≡ t
arm_tree_one forest kept (literal {rail = x}) (literal {rail = y}) same = let e : x ≡ y = cc in ap (λ r. Leaf (rail_gate r)) e
arm_tree_one forest kept literal (cut k) same = absurd (cc)
arm_tree_one forest kept literal (series k e l r) same = absurd (cc)
arm_tree_one forest kept literal (parallel k e l r) same = absurd (cc)
arm_tree_one forest kept (cut k) literal same = absurd (cc)
arm_tree_one forest kept (cut {place = p} k) (cut {place = q} k') same = let e : p ≡ q = cc in ap (λ n. Leaf (cell_gate forest.leaves (cell_of kept n))) e
arm_tree_one forest kept (cut {place = p} k) (series {place = q} k' e l r) same = let here : p ≡ q = cc in absurd (let f : is_kept kept q ≡ false = subst (λ n. is_kept kept n ≡ false) here k in cc)
arm_tree_one forest kept (cut {place = p} k) (parallel {place = q} k' e l r) same = let here : p ≡ q = cc in absurd (let f : is_kept kept q ≡ false = subst (λ n. is_kept kept n ≡ false) here k in cc)
arm_tree_one forest kept (series k e l r) literal same = absurd (cc)
arm_tree_one forest kept (series {place = p} k e l r) (cut {place = q} k') same = let here : p ≡ q = cc in absurd (let f : is_kept kept q ≡ true = subst (λ n. is_kept kept n ≡ true) here k in cc)
arm_tree_one forest kept (series {place = p} {a = a} {b = b} k e l r) (series {place = q} {a = a'} {b = b'} k' e' l' r') same =
    let here : p ≡ q = cc in
    let pair : And a b ≡ And a' b' = same_Some _ _ (sym e ∙ ap (slice_get forest.pairs) here ∙ e') in
    let one : a ≡ a' = cc in
    let two : b ≡ b' = cc in
    ap₂ Series (arm_tree_one forest kept l l' one) (arm_tree_one forest kept r r' two)
arm_tree_one forest kept (series {place = p} {a = a} {b = b} k e l r) (parallel {place = q} {a = a'} {b = b'} k' e' l' r') same =
    let here : p ≡ q = cc in
    let pair : And a b ≡ Or a' b' = same_Some _ _ (sym e ∙ ap (slice_get forest.pairs) here ∙ e') in
    absurd (cc)
arm_tree_one forest kept (parallel k e l r) literal same = absurd (cc)
arm_tree_one forest kept (parallel {place = p} k e l r) (cut {place = q} k') same = let here : p ≡ q = cc in absurd (let f : is_kept kept q ≡ true = subst (λ n. is_kept kept n ≡ true) here k in cc)
arm_tree_one forest kept (parallel {place = p} {a = a} {b = b} k e l r) (series {place = q} {a = a'} {b = b'} k' e' l' r') same =
    let here : p ≡ q = cc in
    let pair : Or a b ≡ And a' b' = same_Some _ _ (sym e ∙ ap (slice_get forest.pairs) here ∙ e') in
    absurd (cc)
arm_tree_one forest kept (parallel {place = p} {a = a} {b = b} k e l r) (parallel {place = q} {a = a'} {b = b'} k' e' l' r') same =
    let here : p ≡ q = cc in
    let pair : Or a b ≡ Or a' b' = same_Some _ _ (sym e ∙ ap (slice_get forest.pairs) here ∙ e') in
    let one : a ≡ a' = cc in
    let two : b ≡ b' = cc in
    ap₂ Parallel (arm_tree_one forest kept l l' one) (arm_tree_one forest kept r r' two)

-- and one tree of each root
pub tree_one : (forest : ForestData) (kept : List Bool) (p : ℕ) (s t : Tree ℕ) → IsTreeOf forest kept p s → IsTreeOf forest kept p t → s ≡ t
tree_one forest kept p (Leaf g) t x y = absurd x
tree_one forest kept p (Series l r) (Leaf g) x y = absurd y
tree_one forest kept p (Series l r) (Series l' r') (a, b, e, x, y) (a', b', e', x', y') =
    let pair : And a b ≡ And a' b' = same_Some _ _ (sym e ∙ e') in
    let one : a ≡ a' = cc in
    let two : b ≡ b' = cc in
    ap₂ Series (arm_tree_one forest kept x x' one) (arm_tree_one forest kept y y' two)
tree_one forest kept p (Series l r) (Parallel l' r') (a, b, e, x, y) (a', b', e', x', y') =
    let pair : And a b ≡ Or a' b' = same_Some _ _ (sym e ∙ e') in absurd (cc)
tree_one forest kept p (Parallel l r) (Leaf g) x y = absurd y
tree_one forest kept p (Parallel l r) (Series l' r') (a, b, e, x, y) (a', b', e', x', y') =
    let pair : Or a b ≡ And a' b' = same_Some _ _ (sym e ∙ e') in absurd (cc)
tree_one forest kept p (Parallel l r) (Parallel l' r') (a, b, e, x, y) (a', b', e', x', y') =
    let pair : Or a b ≡ Or a' b' = same_Some _ _ (sym e ∙ e') in
    let one : a ≡ a' = cc in
    let two : b ≡ b' = cc in
    ap₂ Parallel (arm_tree_one forest kept x x' one) (arm_tree_one forest kept y y' two)
