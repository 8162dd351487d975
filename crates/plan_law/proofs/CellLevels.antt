-- The cells of trees that read only cells before their own have levels.
use Rattle.std.proofs.Common.{◌≡◌, inl, inr, zero, suc, ℕ, ◌+◌, ◌-◌, ◌*◌, ◌<◌, Bool, true, false, cond, List, [], ◌∷◌, length, map, get_or, Option, Some, None, slice_get, refl, sym, ap, ◌∙◌, arith, zero-add, nat_lt, ltb-false}
use Rattle.std.specs.List.{AllByRecursion, range_with_len}
use Rattle.std.proofs.lemmas.List.FromFn.{get_or-map-range_with_len, length-map-range_with_len}
use Rattle.std.proofs.lemmas.List.{get_or_past}
use Rattle.std.proofs.lemmas.Option.{get_or_from_slice_get, slice_get-get_or, slice_get_cases, slice_get_within}
use Rattle.dom_base.proofs.Lists.{AllByRecursion-append, AllByRecursion-weaker}
use Rattle.sp_network.specs.Tree.{Tree, EachLeaf, Leaf, Series, Parallel}
use Rattle.network.proofs.Lists.{map_same}
use Rattle.clock_phase.specs.Levels.{AreLevels, cells_read, greatest}
use Rattle.plan_law.specs.Laws.{LevelsAreThere}
use Rattle.plan_law.proofs.BuiltLists.{lists_same, values_there}
use Rattle.clock_phase.specs.Plans.{ReadEarlierCells}

-- the cells that a tree reads come before its own
cells_before : (leaf_count k : ℕ) (tree : Tree ℕ) → EachLeaf (λ gate. gate < 2 * leaf_count + k) tree
    → AllByRecursion (λ cell. cell < k) (cells_read leaf_count tree)
cells_before leaf_count k (Leaf gate) low = by (nat_lt gate (2 * leaf_count)) refl
  where
    by : (b : Bool) → nat_lt gate (2 * leaf_count) ≡ b → AllByRecursion (λ cell. cell < k) (cond b [] ((gate - 2 * leaf_count) ∷ []))
    by true e = tt
    by false e = let high = ltb-false gate (2 * leaf_count) e in (omega (arith, low, high), tt)
cells_before leaf_count k (Series l r) low = AllByRecursion-append (λ cell. cell < k) (cells_read leaf_count l) (cells_read leaf_count r)
    (cells_before leaf_count k l low.0) (cells_before leaf_count k r low.1)
cells_before leaf_count k (Parallel l r) low = AllByRecursion-append (λ cell. cell < k) (cells_read leaf_count l) (cells_read leaf_count r)
    (cells_before leaf_count k l low.0) (cells_before leaf_count k r low.1)

module _ (leaf_count : ℕ) (trees : List (Tree ℕ)) (below : ReadEarlierCells leaf_count trees) where
  -- the level of a tree, where each cell has one
  abbrev level_over : (ℕ → ℕ) → Option (Tree ℕ) → ℕ
  level_over level None = 0
  level_over level (Some tree) = 1 + greatest (map level (cells_read leaf_count tree))

  abbrev own_level : (ℕ → ℕ) → ℕ → ℕ
  own_level level k = level_over level (slice_get trees k)

  level_lower : (f g : ℕ → ℕ) (k : ℕ) → ((m : ℕ) → m < k → f m ≡ g m) → own_level f k ≡ own_level g k
  level_lower f g k same = by (slice_get trees k) refl
    where
      by : (o : Option (Tree ℕ)) → slice_get trees k ≡ o → level_over f o ≡ level_over g o
      by None at = refl
      by (Some tree) at = ap (λ levels. 1 + greatest levels) (map_same f g (cells_read leaf_count tree)
          (AllByRecursion-weaker (λ cell. cell < k) (λ cell. f cell ≡ g cell) same (cells_read leaf_count tree)
          (cells_before leaf_count k tree (below k tree at))))

  cell_levels : (level : ℕ → ℕ) → ((k : ℕ) → level k ≡ own_level level k)
      → AreLevels leaf_count trees (map level (range_with_len 0 (length trees)))
  cell_levels level own = record {
    one_each = length-map-range_with_len level 0 (length trees);
    levels_are = λ k tree height at at_level.
        let lt = slice_get_within trees k tree at in
        sym (get_or_from_slice_get levels k height 0 at_level) ∙ listed k lt ∙ own k ∙ ap (level_over level) at
        ∙ ap (λ heights. 1 + greatest heights) (map_same level (λ cell. get_or levels cell 0) (cells_read leaf_count tree)
        (AllByRecursion-weaker (λ cell. cell < k) (λ cell. level cell ≡ get_or levels cell 0)
        (λ cell less. sym (listed cell (omega (arith, less, lt)))) (cells_read leaf_count tree)
        (cells_before leaf_count k tree (below k tree at))));
  }
    where
      levels : List ℕ
      levels = map level (range_with_len 0 (length trees))

      listed : (k : ℕ) → k < length trees → get_or (map level (range_with_len 0 (length trees))) k 0 ≡ level k
      listed k lt = get_or-map-range_with_len level 0 (length trees) k k 0 lt (zero-add k)

pub levels_there : LevelsAreThere
levels_there = λ leaf_count trees below.
    let found = values_there 0 (own_level leaf_count trees below) (level_lower leaf_count trees below) in
    (map found.0 (range_with_len 0 (length trees)), cell_levels leaf_count trees below found.0 found.1)

-- and one level each
module _ (leaf_count : ℕ) (trees : List (Tree ℕ)) (below : ReadEarlierCells leaf_count trees) (a b : List ℕ)
    (is : AreLevels leaf_count trees a) (are : AreLevels leaf_count trees b) where
  level_at : (k : ℕ) → ((m : ℕ) → m < k → get_or a m 0 ≡ get_or b m 0) → get_or a k 0 ≡ get_or b k 0
  level_at k earlier = elim (slice_get_cases trees k).1 [
    | inl found ↦ at_tree found.0 found.2
    | inr past ↦ get_or_past a k 0 (omega (arith, past.0, is.one_each)) ∙ sym (get_or_past b k 0 (omega (arith, past.0, are.one_each)))
  ]
    where
      at_tree : (tree : Tree ℕ) → slice_get trees k ≡ Some tree → get_or a k 0 ≡ get_or b k 0
      at_tree tree at =
          let lt = slice_get_within trees k tree at in
          let x = slice_get-get_or a k 0 (omega (arith, lt, is.one_each)) in
          let y = slice_get-get_or b k 0 (omega (arith, lt, are.one_each)) in
          is.levels_are k tree (get_or a k 0) at x
          ∙ ap (λ heights. 1 + greatest heights) (map_same (λ cell. get_or a cell 0) (λ cell. get_or b cell 0) (cells_read leaf_count tree)
          (AllByRecursion-weaker (λ cell. cell < k) (λ cell. get_or a cell 0 ≡ get_or b cell 0) earlier (cells_read leaf_count tree)
          (cells_before leaf_count k tree (below k tree at))))
          ∙ sym (are.levels_are k tree (get_or b k 0) at y)

  levels_alike : (room k : ℕ) → k < room → get_or a k 0 ≡ get_or b k 0
  levels_alike zero k low = absurd (omega (arith, low))
  levels_alike (suc room) k low = level_at k (λ m less. levels_alike room m (omega (arith, less, low)))

  pub levels_one : a ≡ b
  levels_one =
      lists_same a b (is.one_each ∙ sym are.one_each)
      (λ k x y e f. sym (get_or_from_slice_get a k x 0 e) ∙ levels_alike (suc k) k (omega arith) ∙ get_or_from_slice_get b k y 0 f)
