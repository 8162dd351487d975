-- Trees of pairs and arms, and the numbers of cells.
use Rattle.std.proofs.Common.{◌≡◌, sym, ap, ◌∙◌, ℕ, ◌+◌, ◌*◌, ◌<◌, ◌≤◌, Bool, false, not, List, length, take, Some, slice_get, get_or, arith}
use Rattle.std.proofs.lemmas.List.{length-take}
use Rattle.std.proofs.lemmas.List.FromFn.{get_or-map-range_with_len, length-map-range_with_len}
use Rattle.std.proofs.lemmas.List.Sums.{count_by-le-length}
use Rattle.std.proofs.lemmas.Option.{slice_get-get_or, slice_get_within}
use Rattle.sp_network.specs.Tree.{Tree, Leaf, Series, Parallel}
use Rattle.dual_rail.specs.declared.forest.Arm.{Arm}
use Rattle.dual_rail.specs.declared.forest.Arm.TheVariants.{Literal, Pair as pair_arm}
use Rattle.dual_rail.specs.declared.forest.Pair.{Pair}
use Rattle.dual_rail.specs.declared.forest.Pair.TheVariants.{And, Or}
use Rattle.dual_rail.specs.ForestData.{ForestData}
use Rattle.dual_rail.specs.ForestOrder.{IsForest, ReadsBefore}
use Rattle.dual_rail.specs.Forests.{left_arm, right_arm}
use Rattle.tree_map.specs.Plans.{IsArmTree, cut, IsTreeOf, cell_of, is_kept}
use Rattle.tree_map.specs.MappedCover.{IsArmInForest, root_cell_numbers}
use Rattle.dual_rail.proofs.ForestOrders.{reads_later}

-- how far the pairs below an arm go back, twice
abbrev pub arm_room : Arm → ℕ
arm_room (Literal rail) = 0
arm_room (pair_arm place) = 2 * place + 2

pub room_less : (place : ℕ) (arm : Arm) → ReadsBefore place arm → arm_room arm < 2 * place + 1
room_less place (Literal rail) low = omega arith
room_less place (pair_arm other) low = let lt : other < place = low in omega arith

-- the arms of a pair are there
pub left_there : (forest : ForestData) (place : ℕ) (pair : Pair) → IsForest forest → slice_get forest.pairs place ≡ Some pair → IsArmInForest forest (left_arm pair)
left_there forest place pair is at = (
  reads_later place (length forest.pairs) (left_arm pair) (is.in_place.in_order place pair at).0 (omega (arith, slice_get_within forest.pairs place pair at)),
  (is.in_place.has_leaves place pair at).0,
)

pub right_there : (forest : ForestData) (place : ℕ) (pair : Pair) → IsForest forest → slice_get forest.pairs place ≡ Some pair → IsArmInForest forest (right_arm pair)
right_there forest place pair is at = (
  reads_later place (length forest.pairs) (right_arm pair) (is.in_place.in_order place pair at).1 (omega (arith, slice_get_within forest.pairs place pair at)),
  (is.in_place.has_leaves place pair at).1,
)

-- the number of the cell of a pair stands at its place, and it is at most the place
pub cell_at : (kept : List Bool) (cells : List ℕ) (place : ℕ) → cells ≡ root_cell_numbers kept → place < length kept → get_or cells place 0 ≡ cell_of kept place
cell_at kept cells place same lt =
    ap (λ (numbers : List ℕ). get_or numbers place 0) same ∙ get_or-map-range_with_len (cell_of kept) 0 (length kept) place place 0 lt (omega arith)

pub cell_within : (kept : List Bool) (place : ℕ) → cell_of kept place ≤ length kept
cell_within kept place =
    let few = count_by-le-length not (take place kept) in
    let taken = length-take place kept in
    omega (arith, few, taken)

-- the tree of a pair whose arms have these trees
pub and_tree : (forest : ForestData) (kept : List Bool) (place : ℕ) (a b : Arm) (l r : Tree ℕ) → slice_get forest.pairs place ≡ Some (And a b)
    → IsArmTree forest kept a l → IsArmTree forest kept b r → IsTreeOf forest kept place (Series l r)
and_tree forest kept place a b l r at x y = (a, b, at, x, y)

pub or_tree : (forest : ForestData) (kept : List Bool) (place : ℕ) (a b : Arm) (l r : Tree ℕ) → slice_get forest.pairs place ≡ Some (Or a b)
    → IsArmTree forest kept a l → IsArmTree forest kept b r → IsTreeOf forest kept place (Parallel l r)
or_tree forest kept place a b l r at x y = (a, b, at, x, y)

-- what stands at a place of the pairs of a forest
pub pair_at : (forest : ForestData) (pairs : List Pair) (place : ℕ) (found pair : Pair) → pairs ≡ forest.pairs → place < length forest.pairs
    → found ≡ get_or pairs place found → found ≡ pair → slice_get forest.pairs place ≡ Some pair
pair_at forest pairs place found pair same lt is e =
    slice_get-get_or forest.pairs place found lt ∙ ap Some (ap (λ (ps : List Pair). get_or ps place found) (sym same) ∙ sym is ∙ e)

pub leaf_tree : (forest : ForestData) (kept : List Bool) (cells : List ℕ) (place leaves : ℕ) (tree : Tree ℕ) → cells ≡ root_cell_numbers kept → place < length kept
    → leaves ≡ forest.leaves → is_kept kept place ≡ false → tree ≡ Leaf (2 * leaves + get_or cells place 0) → IsArmTree forest kept (pair_arm place) tree
leaf_tree forest kept cells place leaves tree same lt few k is =
    rw (is, few, cell_at kept cells place same lt) (cut k)

pub length-cells : (kept : List Bool) → length (root_cell_numbers kept) ≡ length kept
length-cells kept = length-map-range_with_len (cell_of kept) 0 (length kept)
