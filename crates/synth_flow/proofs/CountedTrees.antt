-- What is counted of the trees of a cover: of a tree by its parts, and of one cell after the other.
use Rattle.std.specs.List.{range_with_len}
use Rattle.std.specs.Prelude.{not}
use Rattle.std.proofs.Common.{◌≡◌, ℕ, ◌+◌, ◌*◌, ◌≤◌, ◌<◌, ◌⊎◌, inl, inr, Bool, true, false, List, length, Some, slice_get, get_or, max, refl, sym, ap, subst, ◌∙◌, arith}
use Rattle.std.proofs.lemmas.List.FromFn.{length-range_with_len}
use Rattle.std.proofs.lemmas.Option.{same_Some, slice_get-get_or}
use Rattle.clock_phase.proofs.Greatest.{level_of_both}
use Rattle.dual_rail.specs.ForestData.{ForestData}
use Rattle.dual_rail.specs.Forests.{left_arm, right_arm}
use Rattle.dual_rail.specs.declared.forest.Pair.{Pair}
use Rattle.dual_rail.specs.declared.forest.Pair.TheVariants.{And, Or}
use Rattle.sp_network.specs.Tree.{Tree, Leaf, Series, Parallel}
use Rattle.tree_map.specs.Plans.{IsArmTree, IsTreeOf, is_kept, roots}
use Rattle.dual_rail.proofs.Zips.{all_zip_get}
use Rattle.synth_flow.specs.CellCounts.{AreTreesOf, greatest_read}
use Rattle.synth_flow.specs.NamedComplements.{MarksAlso}
use Rattle.deck_form.specs.NamedDecks.{reads}
use Rattle.deck_form.proofs.CellOrder.{root_of_cell}
use Rattle.synth_flow.proofs.LeafMarks.{marks_both}
use Rattle.synth_flow.proofs.PushedDecks.{few_filtered}

-- a tree of two parts
abbrev pub IsJoined : Tree ℕ → Tree ℕ → Tree ℕ → Type 0
IsJoined tree l r = (tree ≡ Series l r) ⊎ (tree ≡ Parallel l r)

module _ (forest : ForestData) (kept : List Bool) where
  -- the tree of a pair, by its arms
  pub parts_of : (place : ℕ) (pair : Pair) (tree : Tree ℕ) → slice_get forest.pairs place ≡ Some pair → IsTreeOf forest kept place tree
      → (l : Tree ℕ) × (r : Tree ℕ) × IsArmTree forest kept (left_arm pair) l × IsArmTree forest kept (right_arm pair) r × IsJoined tree l r
  parts_of place pair (Leaf gate) at is = absurd is
  parts_of place pair (Series l r) at (a, b, e, x, y) =
      let same : And a b ≡ pair = same_Some _ _ (sym e ∙ at) in
      (l, r, subst (λ (p : Pair). IsArmTree forest kept (left_arm p) l) same x, subst (λ (p : Pair). IsArmTree forest kept (right_arm p) r) same y, inl refl)
  parts_of place pair (Parallel l r) at (a, b, e, x, y) =
      let same : Or a b ≡ pair = same_Some _ _ (sym e ∙ at) in
      (l, r, subst (λ (p : Pair). IsArmTree forest kept (left_arm p) l) same x, subst (λ (p : Pair). IsArmTree forest kept (right_arm p) r) same y, inr refl)

-- levels and marks of a tree by those of its parts
pub both_levels : (leaf_count : ℕ) (levels : List ℕ) (tree l r : Tree ℕ) (a b n : ℕ) → IsJoined tree l r → a ≡ greatest_read leaf_count levels l → b ≡ greatest_read leaf_count levels r
    → n ≡ max a b → n ≡ greatest_read leaf_count levels tree
both_levels leaf_count levels tree l r a b n (inl is) x y z = level_of_both leaf_count (λ cell. get_or levels cell 0) l r a b n x y z ∙ ap (greatest_read leaf_count levels) (sym is)
both_levels leaf_count levels tree l r a b n (inr is) x y z = level_of_both leaf_count (λ cell. get_or levels cell 0) l r a b n x y z ∙ ap (greatest_read leaf_count levels) (sym is)

pub marks_of_parts : (old between new : List Bool) (tree l r : Tree ℕ) → IsJoined tree l r → length between ≡ length old
    → MarksAlso old between (λ leaf. reads (2 * leaf + 1) l) → MarksAlso between new (λ leaf. reads (2 * leaf + 1) r) → MarksAlso old new (λ leaf. reads (2 * leaf + 1) tree)
marks_of_parts old between new tree l r (inl is) same first second =
    marks_both old between new (λ leaf. reads (2 * leaf + 1) l) (λ leaf. reads (2 * leaf + 1) r) (λ leaf. reads (2 * leaf + 1) tree) same first second (λ leaf. ap (reads (2 * leaf + 1)) is)
marks_of_parts old between new tree l r (inr is) same first second =
    marks_both old between new (λ leaf. reads (2 * leaf + 1) l) (λ leaf. reads (2 * leaf + 1) r) (λ leaf. reads (2 * leaf + 1) tree) same first second (λ leaf. ap (reads (2 * leaf + 1)) is)

-- the tree of the cell whose root stands at a place of the list
pub root_tree : (forest : ForestData) (kept : List Bool) (trees : List (Tree ℕ)) → AreTreesOf forest kept trees → (places : List ℕ) → places ≡ roots kept → (k : ℕ) → k < length places
    → (tree : Tree ℕ) × (slice_get trees k ≡ Some tree) × IsTreeOf forest kept (get_or places k 0) tree
root_tree forest kept trees are places same k lt =
    all_zip_get (IsTreeOf forest kept) (roots kept) trees k (get_or places k 0) are.trees_are (ap (λ l. slice_get l k) (sym same) ∙ slice_get-get_or places k 0 lt)

pub root_there : (kept : List Bool) (places : List ℕ) → places ≡ roots kept → (k : ℕ) → k < length places → get_or places k 0 < length kept
root_there kept places same k lt = (root_of_cell kept k (get_or places k 0) (ap (λ l. slice_get l k) (sym same) ∙ slice_get-get_or places k 0 lt)).2
