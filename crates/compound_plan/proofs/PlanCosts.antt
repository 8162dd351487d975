-- What a plan costs, pair by pair: what a root adds, the series node, and the arms that are leaves.
use Rattle.std.proofs.Common.{◌≡◌, refl, ap, subst, ◌∙◌, ℕ, zero, suc, ◌+◌, Bool, true, false, not, cond, List, [], ◌∷◌, length, filter, Some, None, Option, slice_get, arith}
use Rattle.std.specs.List.{AllZip, range_with_len}
use Rattle.std.proofs.lemmas.List.Sums.{sum_by-cons}
use Rattle.sp_network.specs.Tree.{Leaf, Parallel, Series, Tree}
use Rattle.dual_rail.specs.declared.forest.Arm.{Arm}
use Rattle.dual_rail.specs.declared.forest.Arm.TheVariants.{Literal, Pair as pair_arm}
use Rattle.dual_rail.specs.declared.forest.Pair.{Pair}
use Rattle.dual_rail.specs.declared.forest.Pair.TheVariants.{And, Or}
use Rattle.dual_rail.specs.ForestData.{ForestData}
use Rattle.dual_rail.specs.ForestOrder.{AreInOrder}
use Rattle.dual_rail.specs.Forests.{left_arm, right_arm}
use Rattle.compound_plan.specs.PlanParts.{operator_of}
use Rattle.compound_plan.specs.PlanTrees.{IsArmTree, literal, cut, series, parallel, cell_gate, cell_of, is_kept, rail_gate, tree_sum}
use Rattle.compound_plan.proofs.Tallies.{arm_value, arms_value, tally, tally-is, tally_total}
use Rattle.compound_plan.proofs.Totals.{total}
use Rattle.cover_plan.specs.Covers.{Costs}
use Rattle.cover_plan.proofs.Sums.{series_of}
use Rattle.compound_plan.specs.Plans.{CellTrees, Compound, IsCellOf, IsPlan, Simple, cell_cost, cost}
use Rattle.compound_plan.proofs.TreeSums.{tree_sum-is, tree_sum_parallel, tree_sum_series}
use Rattle.std.proofs.Math.Nat.{mul-zero}

module _ (c : Costs) (forest : ForestData) (kept split : List Bool) (order : AreInOrder forest.pairs) where
  -- what an arm adds to the tree above it by itself, and what a pair adds in all
  abbrev pub arm_leaf : Arm → ℕ
  arm_leaf (Literal rail) = 1
  arm_leaf (pair_arm place) = cond (is_kept kept place) 0 1

  abbrev pub root_part : ℕ → ℕ
  root_part p = cond (is_kept kept p) 0 (cond (is_kept split p) c.compound c.simple)

  abbrev pub pair_part : Option Pair → ℕ
  pair_part None = 0
  pair_part (Some pair) = series_of c (operator_of pair) + (arm_leaf (left_arm pair) + arm_leaf (right_arm pair))

  abbrev pub own_cost : ℕ → ℕ
  own_cost p = root_part p + pair_part (slice_get forest.pairs p)

  -- the sum over the pairs that a test joins below a pair
  pub sums_below : (test : ℕ → Bool) (p : ℕ) (pair : Pair) → slice_get forest.pairs p ≡ Some pair
      → tally forest.pairs test own_cost p
      ≡ root_part p + (series_of c (operator_of pair) + (arm_leaf (left_arm pair) + arm_leaf (right_arm pair)))
      + (arm_value (λ q. cond (test q) (tally forest.pairs test own_cost q) 0) (left_arm pair) + arm_value (λ q. cond (test q) (tally forest.pairs test own_cost q) 0) (right_arm pair))
  sums_below test p pair e =
      tally-is forest.pairs order test own_cost p
      ∙ ap (λ o. root_part p + pair_part o + arms_value (λ q. cond (test q) (tally forest.pairs test own_cost q) 0) o) e

  -- the sum of the tree of each pair
  in_tree : ℕ → ℕ
  in_tree = tally forest.pairs (is_kept kept) own_cost

  arm_in : Arm → ℕ
  arm_in = arm_value (λ q. cond (is_kept kept q) (in_tree q) 0)

  in_tree-is : (p : ℕ) (pair : Pair) → slice_get forest.pairs p ≡ Some pair
      → in_tree p ≡ root_part p + (series_of c (operator_of pair) + (arm_leaf (left_arm pair) + arm_leaf (right_arm pair))) + (arm_in (left_arm pair) + arm_in (right_arm pair))
  unfolding in_tree arm_in
  in_tree-is p pair e = sums_below (is_kept kept) p pair e

  kept_tree : (p : ℕ) (pair : Pair) → slice_get forest.pairs p ≡ Some pair → is_kept kept p ≡ true
      → in_tree p ≡ series_of c (operator_of pair) + (arm_leaf (left_arm pair) + arm_leaf (right_arm pair)) + (arm_in (left_arm pair) + arm_in (right_arm pair))
  kept_tree p pair e k = in_tree-is p pair e ∙ rw k (omega arith)

  arm_sum : {arm : Arm} {tree : Tree ℕ} → IsArmTree forest kept arm tree → tree_sum c.series tree ≡ arm_leaf arm + arm_in arm
  unfolding arm_in
  arm_sum (literal {rail = rail}) = omega (arith, tree_sum-is c.series (Leaf (rail_gate rail)), mul-zero c.series)
  arm_sum (cut {place = p} e) = rw e (omega (arith, tree_sum-is c.series (Leaf (cell_gate forest.leaves (cell_of kept p))), mul-zero c.series))
  arm_sum (series {place = p} {a = a} {b = b} k e l r) =
      let x = arm_sum l in
      let y = arm_sum r in
      let z = kept_tree p (And a b) e k in
      rw k (tree_sum_series c.series _ _ ∙ by _ _ _ _ _ _ _ _ x y z)
    where
      by : (x y s la lb va vb t : ℕ) → x ≡ la + va → y ≡ lb + vb → t ≡ s + (la + lb) + (va + vb) → x + y + s ≡ 0 + t
      by x y s la lb va vb t p q r = omega (arith, p, q, r)
  arm_sum (parallel {place = p} {a = a} {b = b} k e l r) =
      let x = arm_sum l in
      let y = arm_sum r in
      let z = kept_tree p (Or a b) e k in
      rw k (tree_sum_parallel c.series _ _ ∙ by _ _ _ _ _ _ _ x y z)
    where
      by : (x y la lb va vb t : ℕ) → x ≡ la + va → y ≡ lb + vb → t ≡ 0 + (la + lb) + (va + vb) → x + y ≡ 0 + t
      by x y la lb va vb t p q r = omega (arith, p, q, r)

  -- a cell costs the sum of its root
  cell_sum : (p : ℕ) (cell : CellTrees) → IsCellOf forest kept split p cell → is_kept kept p ≡ false → cell_cost c cell ≡ in_tree p
  cell_sum p (Simple (Leaf gate)) (unmarked, t) k = absurd t
  cell_sum p (Simple (Series l r)) (unmarked, (a, b, e, x, y)) k =
      let u = arm_sum x in
      let v = arm_sum y in
      let z : in_tree p ≡ c.simple + (c.series + (arm_leaf a + arm_leaf b)) + (arm_in a + arm_in b) = in_tree-is p (And a b) e ∙ rw (k, unmarked) refl in
      omega (arith, u, v, z, tree_sum_series c.series l r)
  cell_sum p (Simple (Parallel l r)) (unmarked, (a, b, e, x, y)) k =
      let u = arm_sum x in
      let v = arm_sum y in
      let z : in_tree p ≡ c.simple + (0 + (arm_leaf a + arm_leaf b)) + (arm_in a + arm_in b) = in_tree-is p (Or a b) e ∙ rw (k, unmarked) refl in
      omega (arith, u, v, z, tree_sum_parallel c.series l r)
  cell_sum p (Compound l r) (marked, (a, b, e, x, y)) k =
      let u = arm_sum x in
      let v = arm_sum y in
      let z : in_tree p ≡ c.compound + (0 + (arm_leaf a + arm_leaf b)) + (arm_in a + arm_in b) = in_tree-is p (Or a b) e ∙ rw (k, marked) refl in
      omega (arith, u, v, z)

  roots_cost : (a m : ℕ) (cells : List CellTrees) → AllZip (IsCellOf forest kept split) (filter (λ place. not (is_kept kept place)) (range_with_len a m)) cells
      → cost c cells ≡ total (λ p. cond (is_kept kept p) 0 (in_tree p)) a m
  roots_cost a zero [] h = refl
  roots_cost a zero (t ∷ cells) h = absurd h
  roots_cost a (suc m) cells h = by (is_kept kept a) refl cells h (λ ts g. roots_cost (a + 1) m ts g)
    where
      by : (b : Bool) → is_kept kept a ≡ b → (ts : List CellTrees)
          → AllZip (IsCellOf forest kept split) (cond (not b) (a ∷ filter (λ place. not (is_kept kept place)) (range_with_len (a + 1) m)) (filter (λ place. not (is_kept kept place)) (range_with_len (a + 1) m))) ts
          → ((us : List CellTrees) → AllZip (IsCellOf forest kept split) (filter (λ place. not (is_kept kept place)) (range_with_len (a + 1) m)) us
          → cost c us ≡ total (λ p. cond (is_kept kept p) 0 (in_tree p)) (a + 1) m)
          → cost c ts ≡ cond b 0 (in_tree a) + total (λ p. cond (is_kept kept p) 0 (in_tree p)) (a + 1) m
      by true k ts g more = more ts g ∙ omega arith
      by false k [] g more = absurd g
      by false k (t ∷ ts) g more = let one = cell_sum a t g.0 k in let rest = more ts g.1 in rw (sum_by-cons (cell_cost c) t ts) (omega (arith, one, rest))

  -- a plan costs what its pairs add
  pub plan_cost : (w h : ℕ) (cells : List CellTrees) → IsPlan c forest w h kept split cells → cost c cells ≡ total own_cost 0 (length forest.pairs)
  unfolding in_tree
  plan_cost w h cells plan =
      roots_cost 0 (length forest.pairs) cells (subst (λ m. AllZip (IsCellOf forest kept split) (filter (λ place. not (is_kept kept place)) (range_with_len 0 m)) cells) plan.one_each plan.cells_are)
      ∙ tally_total forest.pairs order (is_kept kept) own_cost (λ q lt e. (plan.free q e).0)
