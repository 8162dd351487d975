-- Trees within bounds have few leaves.
use Rattle.std.proofs.Common.{ℕ, ◌*◌, ◌≤◌, max, List, arith, All}
use Rattle.std.proofs.Math.Nat.{add-mul, mul-add, mul-le-mul_left, mul-le-mul_right}
use Rattle.std.proofs.lemmas.List.Elements.{All-weaker}
use Rattle.sp_network.specs.Tree.{Tree, Leaf, Series, Parallel, height, leaves, width}
use Rattle.tree_map.specs.Bounds.{IsWithin}

-- a tree has at most the leaves of its width by its height
leaves_in_box : (t : Tree ℕ) → leaves t ≤ width t * height t
leaves_in_box (Leaf gate) = omega arith
leaves_in_box (Series l r) =
    let x : width l * height l ≤ max (width l) (width r) * height l = mul-le-mul_right (height l) (omega arith) in
    let y : width r * height r ≤ max (width l) (width r) * height r = mul-le-mul_right (height r) (omega arith) in
    omega (arith, leaves_in_box l, leaves_in_box r, x, y, mul-add (max (width l) (width r)) (height l) (height r))
leaves_in_box (Parallel l r) =
    let x : width l * height l ≤ width l * max (height l) (height r) = mul-le-mul_left (width l) (omega arith) in
    let y : width r * height r ≤ width r * max (height l) (height r) = mul-le-mul_left (width r) (omega arith) in
    omega (arith, leaves_in_box l, leaves_in_box r, x, y, add-mul (width l) (width r) (max (height l) (height r)))

pub trees_are_small : (w h : ℕ) (trees : List (Tree ℕ)) → w ≤ 8 → h ≤ 6 → All (IsWithin w h) trees → All (λ tree. leaves tree ≤ 48) trees
trees_are_small w h trees wide high within =
    All-weaker (IsWithin w h) (λ tree. leaves tree ≤ 48)
    (λ tree is.
    let box = leaves_in_box tree in
    let row : width tree * height tree ≤ 8 * height tree = mul-le-mul_right (height tree) (omega (arith, is.0, wide)) in
    omega (arith, box, row, is.1, high))
    trees within
