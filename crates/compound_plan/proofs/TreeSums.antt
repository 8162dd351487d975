-- The sum of a tree by its series nodes.
use Rattle.std.proofs.Common.{arith, refl, suc, zero, ℕ, ◌*◌, ◌+◌, ◌≡◌}
use Rattle.std.proofs.Math.Nat.{mul-add, mul-one}
use Rattle.sp_network.specs.Tree.{Parallel, Series, Tree, inner_count, leaves}
use Rattle.compound_plan.specs.PlanTrees.{tree_sum}

pub tree_sum-is : (n : ℕ) (tree : Tree ℕ) → tree_sum n tree ≡ leaves tree + n * inner_count tree
tree_sum-is zero tree = omega arith
tree_sum-is (suc n) tree = refl

pub tree_sum_series : (n : ℕ) (l r : Tree ℕ) → tree_sum n (Series l r) ≡ tree_sum n l + tree_sum n r + n
tree_sum_series n l r =
    omega (arith, tree_sum-is n (Series l r), tree_sum-is n l, tree_sum-is n r, mul-add n 1 (inner_count l + inner_count r), mul-add n (inner_count l) (inner_count r), mul-one n)

pub tree_sum_parallel : (n : ℕ) (l r : Tree ℕ) → tree_sum n (Parallel l r) ≡ tree_sum n l + tree_sum n r
tree_sum_parallel n l r = omega (arith, tree_sum-is n (Parallel l r), tree_sum-is n l, tree_sum-is n r, mul-add n (inner_count l) (inner_count r))
