-- The greatest of some numbers, and the levels that a tree reads.
use Rattle.std.proofs.Common.{◌≡◌, refl, ap, ℕ, zero, suc, ◌+◌, ◌*◌, ◌-◌, ◌<◌, ◌≤◌, max, true, false, nat_lt, cond, List, [], ◌∷◌, ◌++◌, length, map, take, get_or, take-suc, add-one, arith}
use Rattle.std.proofs.lemmas.Bool.{ltb-false}
use Rattle.std.proofs.lemmas.List.{map-append}
use Rattle.sp_network.specs.Tree.{Tree, Leaf, Series, Parallel, EachLeaf}
use Rattle.clock_phase.specs.Levels.{cells_read, greatest}

pub greatest_append : (xs ys : List ℕ) → greatest (xs ++ ys) ≡ max (greatest xs) (greatest ys)
greatest_append [] ys = omega arith
greatest_append (x ∷ xs) ys = let more = greatest_append xs ys in omega (arith, more)

pub greatest_one_more : (xs : List ℕ) (i : ℕ) (d : ℕ) → i < length xs → greatest (take (i + 1) xs) ≡ max (greatest (take i xs)) (get_or xs i d)
greatest_one_more xs i d lt = rw (add-one, take-suc xs i d lt) (let more = greatest_append (take i xs) (get_or xs i d ∷ []) in omega (arith, more))

-- the greatest level that two parts read
pub greatest_of_parts : (f : ℕ → ℕ) (xs ys : List ℕ) → greatest (map f (xs ++ ys)) ≡ max (greatest (map f xs)) (greatest (map f ys))
greatest_of_parts f xs ys = rw (map-append f xs ys) (greatest_append (map f xs) (map f ys))

-- a tree that reads only earlier cells reads the same levels where the levels of these are the same
pub same_levels_read : (leaf_count k : ℕ) (f g : ℕ → ℕ) → ((j : ℕ) → j < k → f j ≡ g j) → (tree : Tree ℕ)
    → EachLeaf (λ gate. gate < 2 * leaf_count + k) tree → map f (cells_read leaf_count tree) ≡ map g (cells_read leaf_count tree)
same_levels_read leaf_count k f g same (Leaf gate) below =
    (elim (nat_lt gate (2 * leaf_count)) as (λ b. nat_lt gate (2 * leaf_count) ≡ b
    → map f (cond b [] ((gate - 2 * leaf_count) ∷ [])) ≡ map g (cond b [] ((gate - 2 * leaf_count) ∷ []))) [
      | true ↦ λ e. refl
      | false ↦ λ e. ap (λ n. n ∷ []) (same (gate - 2 * leaf_count) (let le = ltb-false gate (2 * leaf_count) e in omega arith))
    ]) refl
same_levels_read leaf_count k f g same (Series l r) below =
    rw (map-append f (cells_read leaf_count l), map-append g (cells_read leaf_count l), same_levels_read leaf_count k f g same l below.0, same_levels_read leaf_count k f g same r below.1) refl
same_levels_read leaf_count k f g same (Parallel l r) below =
    rw (map-append f (cells_read leaf_count l), map-append g (cells_read leaf_count l), same_levels_read leaf_count k f g same l below.0, same_levels_read leaf_count k f g same r below.1) refl

-- and none above what bounds these
pub greatest_read_within : (leaf_count k : ℕ) (f : ℕ → ℕ) (bound : ℕ) → ((j : ℕ) → j < k → f j ≤ bound) → (tree : Tree ℕ)
    → EachLeaf (λ gate. gate < 2 * leaf_count + k) tree → greatest (map f (cells_read leaf_count tree)) ≤ bound
greatest_read_within leaf_count k f bound within (Leaf gate) below =
    (elim (nat_lt gate (2 * leaf_count)) as (λ b. nat_lt gate (2 * leaf_count) ≡ b
    → greatest (map f (cond b [] ((gate - 2 * leaf_count) ∷ []))) ≤ bound) [
      | true ↦ λ e. omega arith
      | false ↦ λ e. let le = ltb-false gate (2 * leaf_count) e in let here = within (gate - 2 * leaf_count) (omega arith) in omega arith
    ]) refl
greatest_read_within leaf_count k f bound within (Series l r) below =
    let a = greatest_read_within leaf_count k f bound within l below.0 in let b = greatest_read_within leaf_count k f bound within r below.1 in
    rw (greatest_of_parts f (cells_read leaf_count l) (cells_read leaf_count r)) (omega arith)
greatest_read_within leaf_count k f bound within (Parallel l r) below =
    let a = greatest_read_within leaf_count k f bound within l below.0 in let b = greatest_read_within leaf_count k f bound within r below.1 in
    rw (greatest_of_parts f (cells_read leaf_count l) (cells_read leaf_count r)) (omega arith)

pub each_leaf_weaker : (P Q : ℕ → Type 0) → ((gate : ℕ) → P gate → Q gate) → (tree : Tree ℕ) → EachLeaf P tree → EachLeaf Q tree
each_leaf_weaker P Q weaker (Leaf gate) h = weaker gate h
each_leaf_weaker P Q weaker (Series l r) h = (each_leaf_weaker P Q weaker l h.0, each_leaf_weaker P Q weaker r h.1)
each_leaf_weaker P Q weaker (Parallel l r) h = (each_leaf_weaker P Q weaker l h.0, each_leaf_weaker P Q weaker r h.1)

pub at_most_greatest : (levels : List ℕ) (k : ℕ) → get_or levels k 0 ≤ greatest levels
at_most_greatest [] k = omega arith
at_most_greatest (x ∷ levels) zero = omega arith
at_most_greatest (x ∷ levels) (suc k) = let more = at_most_greatest levels k in omega (arith, more)

-- the greatest level that two parts read, of which one level and the other are known
pub level_of_both : (leaf_count : ℕ) (f : ℕ → ℕ) (l r : Tree ℕ) (a b n : ℕ) → a ≡ greatest (map f (cells_read leaf_count l))
    → b ≡ greatest (map f (cells_read leaf_count r)) → n ≡ max a b
    → n ≡ greatest (map f (cells_read leaf_count l ++ cells_read leaf_count r))
level_of_both leaf_count f l r a b n left right is =
    let parts = greatest_of_parts f (cells_read leaf_count l) (cells_read leaf_count r) in omega (arith, parts, left, right, is)
