-- Levels that are written one after the other.
use Rattle.std.proofs.Common.{◌≡◌, ap, sym, ◌∙◌, ℕ, ◌+◌, ◌*◌, ◌<◌, ◌≤◌, List, length, map, set, get_or, Some, slice_get, All, below_more, get_or-set_same, get_or-set_other, arith}
use Rattle.std.proofs.lemmas.Option.{get_or_from_slice_get, slice_get-get_or, slice_get_within}
use Rattle.sp_network.specs.Tree.{Tree, Leaf, EachLeaf}
use Rattle.clock_phase.specs.Levels.{AreLevels, cells_read, greatest}
use Rattle.clock_phase.specs.Plans.{ReadEarlierCells}
use Rattle.clock_phase.proofs.Greatest.{greatest_read_within, same_levels_read}

-- the level of a tree, by the levels of the cells
abbrev pub level_of : ℕ → List ℕ → Tree ℕ → ℕ
level_of leaf_count levels tree = 1 + greatest (map (λ cell. get_or levels cell 0) (cells_read leaf_count tree))

-- the first so many levels are written, and each is at most its place and 1
pub record AreLevelsUpTo (leaf_count : ℕ) (trees : List (Tree ℕ)) (levels : List ℕ) (k : ℕ) : Type 0 where
  pub levels_are : (j : ℕ) (tree : Tree ℕ) → j < k → slice_get trees j ≡ Some tree → get_or levels j 0 ≡ level_of leaf_count levels tree
  pub within : (j : ℕ) → j < k → get_or levels j 0 ≤ j + 1

pub no_level : (leaf_count : ℕ) (trees : List (Tree ℕ)) (levels : List ℕ) → AreLevelsUpTo leaf_count trees levels 0
no_level leaf_count trees levels = record { levels_are = λ j tree lt e. absurd (omega arith); within = λ j lt. absurd (omega arith) }

-- the level of a tree that reads only cells before one doesn't hang on the level of that one
pub level_stays : (leaf_count k : ℕ) (levels : List ℕ) (n : ℕ) (tree : Tree ℕ) (j : ℕ) → j ≤ k
    → EachLeaf (λ gate. gate < 2 * leaf_count + j) tree → level_of leaf_count (set levels k n) tree ≡ level_of leaf_count levels tree
level_stays leaf_count k levels n tree j le below =
    ap (λ read. 1 + greatest read) (same_levels_read leaf_count j (λ cell. get_or (set levels k n) cell 0) (λ cell. get_or levels cell 0)
    (λ i lt. get_or-set_other levels k i n 0 (omega arith)) tree below)

pub level_within : (leaf_count : ℕ) (trees : List (Tree ℕ)) (levels : List ℕ) (k : ℕ) → AreLevelsUpTo leaf_count trees levels k
    → (tree : Tree ℕ) → EachLeaf (λ gate. gate < 2 * leaf_count + k) tree → level_of leaf_count levels tree ≤ k + 1
level_within leaf_count trees levels k are tree below =
    let most = greatest_read_within leaf_count k (λ cell. get_or levels cell 0) k (λ j lt. let own = are.within j lt in omega arith) tree below in
    omega arith

pub one_level_more : (leaf_count : ℕ) (trees : List (Tree ℕ)) (levels : List ℕ) (k n : ℕ) (tree : Tree ℕ) → ReadEarlierCells leaf_count trees
    → AreLevelsUpTo leaf_count trees levels k → k < length levels → slice_get trees k ≡ Some tree → n ≡ level_of leaf_count levels tree
    → AreLevelsUpTo leaf_count trees (set levels k n) (k + 1)
one_level_more leaf_count trees levels k n tree earlier are lt at is = record {
  levels_are = λ j other less e.
      rw (level_stays leaf_count k levels n other j (omega arith) (earlier j other e))
      (below_more (λ i. (x : Tree ℕ) → slice_get trees i ≡ Some x → get_or (set levels k n) i 0 ≡ level_of leaf_count levels x) k
      (λ i l x f. get_or-set_other levels k i n 0 (omega arith) ∙ are.levels_are i x l f)
      (λ x f. let same : x ≡ tree = cc in get_or-set_same levels k n 0 lt ∙ is ∙ ap (level_of leaf_count levels) (sym same)) j less other e);
  within = let most = level_within leaf_count trees levels k are tree (earlier k tree at) in
      below_more (λ i. get_or (set levels k n) i 0 ≤ i + 1) k
      (λ i l. rw (get_or-set_other levels k i n 0 (omega arith)) (are.within i l))
      (rw (get_or-set_same levels k n 0 lt) (omega arith));
}

pub all_levels : (leaf_count : ℕ) (trees : List (Tree ℕ)) (levels : List ℕ) → length levels ≡ length trees
    → AreLevelsUpTo leaf_count trees levels (length trees) → AreLevels leaf_count trees levels
all_levels leaf_count trees levels len are = record {
  one_each = len;
  levels_are = λ k tree level at here. sym (get_or_from_slice_get levels k level 0 here) ∙ are.levels_are k tree (slice_get_within trees k tree at) at;
}

pub levels_from_one : (leaf_count : ℕ) (trees : List (Tree ℕ)) (levels : List ℕ) → AreLevels leaf_count trees levels → All (λ level. 1 ≤ level) levels
levels_from_one leaf_count trees levels are = λ k d lt.
    let own = are.levels_are k (get_or trees k (Leaf 0)) (get_or levels k d) (slice_get-get_or trees k (Leaf 0) (omega (arith, lt, are.one_each))) (slice_get-get_or levels k d lt) in
    omega (arith, own)
