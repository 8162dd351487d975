-- The trees of a forest under kept free edges, and what trees cost (Zhao, Sapatnekar 1998).
use Rattle.std.specs.Prelude.{ℕ, zero, ◌+◌, ◌*◌, ◌≡◌, ◌==◌, ◌&&◌, Bool, true, false, not, cond, List, length, filter, take, Some, slice_get, slice_index_or, sum_by, count_by}
use Rattle.std.specs.List.{range_with_len}
use Rattle.sp_network.specs.Tree.{Tree, Leaf, Series, Parallel, inner_count, leaves}
use Rattle.cover_plan.specs.Covers.{Costs}
use Rattle.dual_rail.specs.declared.forest.Arm.{Arm}
use Rattle.dual_rail.specs.declared.forest.Arm.TheVariants.{Literal, Pair as pair_arm}
use Rattle.dual_rail.specs.declared.forest.Pair.TheVariants.{And, Or}
use Rattle.dual_rail.specs.declared.forest.Rail.{Rail}
use Rattle.dual_rail.specs.ForestData.{ForestData}
use Rattle.dual_rail.specs.Forests.{arm_uses, end_uses}

-- the edge to a pair is free: the pair's one use is by a pair. A free edge is called by the pair that it leads to
abbrev pub IsFree : ForestData → ℕ → Type 0
IsFree forest place = (arm_uses forest place ≡ 1) × (end_uses forest place ≡ 0)

-- whether it is
unfoldable pub is_free : ForestData → ℕ → Bool
is_free forest place = (arm_uses forest place == 1) && (end_uses forest place == 0)

-- whether the edge to a pair is kept; a pair whose edge isn't kept is the root of a tree
abbrev pub is_kept : List Bool → ℕ → Bool
is_kept kept place = slice_index_or kept place false

-- the roots, in order
abbrev pub roots : List Bool → List ℕ
roots kept = filter (λ place. not (is_kept kept place)) (range_with_len 0 (length kept))

-- the number of the cell of a root: how many roots stand before it
abbrev pub cell_of : List Bool → ℕ → ℕ
cell_of kept place = count_by not (take place kept)

-- the gate of a leaf: 2 p for leaf p as it is, 2 p + 1 for its opposite
abbrev pub rail_gate : Rail → ℕ
rail_gate rail = cond rail.plus (2 * rail.leaf) (2 * rail.leaf + 1)

-- and behind those of all leaves, so many, the outputs of the cells
abbrev pub cell_gate : ℕ → ℕ → ℕ
cell_gate leaf_count cell = 2 * leaf_count + cell

-- The tree below an arm: a literal and an edge that isn't kept are leaves; And is series and Or is parallel, left
-- before right.
pub data IsArmTree (forest : ForestData) (kept : List Bool) : Arm → Tree ℕ → Type 0 where
  literal : {rail : Rail} → IsArmTree forest kept (Literal rail) (Leaf (rail_gate rail))
  cut : {place : ℕ} → is_kept kept place ≡ false
      → IsArmTree forest kept (pair_arm place) (Leaf (cell_gate forest.leaves (cell_of kept place)))
  series : {place : ℕ} {a b : Arm} {l r : Tree ℕ} → is_kept kept place ≡ true → slice_get forest.pairs place ≡ Some (And a b)
      → IsArmTree forest kept a l → IsArmTree forest kept b r → IsArmTree forest kept (pair_arm place) (Series l r)
  parallel : {place : ℕ} {a b : Arm} {l r : Tree ℕ} → is_kept kept place ≡ true → slice_get forest.pairs place ≡ Some (Or a b)
      → IsArmTree forest kept a l → IsArmTree forest kept b r → IsArmTree forest kept (pair_arm place) (Parallel l r)

-- the tree whose root is this pair
abbrev pub IsTreeOf : ForestData → List Bool → ℕ → Tree ℕ → Type 0
IsTreeOf forest kept place (Leaf gate) = ⊥
IsTreeOf forest kept place (Series l r) =
    (a : Arm) × (b : Arm) × (slice_get forest.pairs place ≡ Some (And a b)) × IsArmTree forest kept a l × IsArmTree forest kept b r
IsTreeOf forest kept place (Parallel l r) =
    (a : Arm) × (b : Arm) × (slice_get forest.pairs place ≡ Some (Or a b)) × IsArmTree forest kept a l × IsArmTree forest kept b r

-- the leaves of a tree, and its series nodes where they cost something
abbrev pub tree_sum : ℕ → Tree ℕ → ℕ
tree_sum zero tree = leaves tree
tree_sum node tree = leaves tree + node * inner_count tree

-- what a tree costs with the rest of its cell, and what some trees cost
abbrev pub tree_cost_by : Costs → Tree ℕ → ℕ
tree_cost_by c tree = tree_sum c.series tree + c.simple

abbrev pub cost_by : Costs → List (Tree ℕ) → ℕ
cost_by c trees = sum_by (tree_cost_by c) trees
