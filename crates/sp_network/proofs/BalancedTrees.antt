-- What balanced trees join, and what holds of their leaves.
use Rattle.std.proofs.Common.{◌≡◌, ℕ, ◌≤◌, Bool, ◌&&◌, ◌||◌, List, [], length, map, take, drop, refl, sym, ap, ap₂, ◌∙◌, arith, take-append-drop, ◌+◌, length-take, length-drop}
use Rattle.std.specs.Prelude.{All}
use Rattle.std.specs.List.{list_all, list_any}
use Rattle.std.proofs.lemmas.List.Elements.{All-head, All-take, All-drop}
use Rattle.std.proofs.lemmas.List.Folds.{list_all-append, list_any-append}
use Rattle.sp_network.specs.Tree.{Tree, Leaf, Series, Parallel, joins, EachLeaf, inner_count, leaves}
use Rattle.dom_base.proofs.Bools.{and_true, cond_and, cond_or, or_false}
use Rattle.sp_network.specs.Balanced.{balanced, first_half}
use Rattle.sp_network.proofs.BalancedExpressions.{by_halves, balanced-map}

-- trees in series join the ends where each of them does
pub joins-series : {A Net : Type 0} (test : Net → Bool) (none : Net) (f : A → Tree Net) (xs : List A) → 1 ≤ length xs
    → joins test (balanced Series (Leaf none) (map f xs)) ≡ list_all (λ x. joins test (f x)) xs
joins-series test none f xs some =
    by_halves (λ ys. joins test (balanced Series (Leaf none) (map f ys)) ≡ list_all (λ x. joins test (f x)) ys)
    (λ x. sym (and_true (joins test (f x))))
    (λ ys many front back.
    let h : ℕ = first_half (length ys) in
    ap (joins test) (balanced-map Series (Leaf none) f ys many)
    ∙ cond_and (joins test (balanced Series (Leaf none) (map f (take h ys)))) (joins test (balanced Series (Leaf none) (map f (drop h ys))))
    ∙ ap₂ ◌&&◌ front back
    ∙ sym (list_all-append (λ x. joins test (f x)) (take h ys) (drop h ys))
    ∙ ap (list_all (λ x. joins test (f x))) (take-append-drop h ys))
    (length xs) xs some (omega arith)

-- trees in parallel join the ends where one of them does
pub joins-parallel : {A Net : Type 0} (test : Net → Bool) (none : Net) (f : A → Tree Net) (xs : List A) → 1 ≤ length xs
    → joins test (balanced Parallel (Leaf none) (map f xs)) ≡ list_any (λ x. joins test (f x)) xs
joins-parallel test none f xs some =
    by_halves (λ ys. joins test (balanced Parallel (Leaf none) (map f ys)) ≡ list_any (λ x. joins test (f x)) ys)
    (λ x. sym (or_false (joins test (f x))))
    (λ ys many front back.
    let h : ℕ = first_half (length ys) in
    ap (joins test) (balanced-map Parallel (Leaf none) f ys many)
    ∙ cond_or (joins test (balanced Parallel (Leaf none) (map f (take h ys)))) (joins test (balanced Parallel (Leaf none) (map f (drop h ys))))
    ∙ ap₂ ◌||◌ front back
    ∙ sym (list_any-append (λ x. joins test (f x)) (take h ys) (drop h ys))
    ∙ ap (list_any (λ x. joins test (f x))) (take-append-drop h ys))
    (length xs) xs some (omega arith)

-- what holds of the leaves of some trees holds of those of their balanced tree
pub EachLeaf-balanced : {A Net : Type 0} (P : Net → Type 0) (op : Tree Net → Tree Net → Tree Net) (none : Net) (f : A → Tree Net)
    → ((l r : Tree Net) → EachLeaf P l → EachLeaf P r → EachLeaf P (op l r))
    → (xs : List A) → 1 ≤ length xs → All (λ x. EachLeaf P (f x)) xs → EachLeaf P (balanced op (Leaf none) (map f xs))
EachLeaf-balanced P op none f keeps xs some =
    by_halves (λ ys. All (λ x. EachLeaf P (f x)) ys → EachLeaf P (balanced op (Leaf none) (map f ys)))
    (λ x each. All-head (λ y. EachLeaf P (f y)) x [] each)
    (λ ys many front back each.
    let h : ℕ = first_half (length ys) in
    rw (balanced-map op (Leaf none) f ys many) (keeps _ _
    (front (All-take (λ y. EachLeaf P (f y)) h ys each))
    (back (All-drop (λ y. EachLeaf P (f y)) h ys each))))
    (length xs) xs some (omega arith)

-- a leaf for each net
pub leaves-balanced_series : {Net : Type 0} (none : Net) (nets : List Net) → 1 ≤ length nets → leaves (balanced Series (Leaf none) (map Leaf nets)) ≡ length nets
leaves-balanced_series none nets some =
    by_halves (λ xs. leaves (balanced Series (Leaf none) (map Leaf xs)) ≡ length xs) (λ x. refl)
    (λ xs many front back.
    let h : ℕ = first_half (length xs) in
    let a = length-take h xs in
    let b = length-drop h xs in
    let tree = ap leaves (balanced-map Series (Leaf none) Leaf xs many) in
    omega (arith, front, back, tree, a, b))
    (length nets) nets some (omega arith)

-- an inner net between two leaves
pub inner_count-balanced_series : {Net : Type 0} (none : Net) (nets : List Net) → 1 ≤ length nets → inner_count (balanced Series (Leaf none) (map Leaf nets)) + 1 ≡ length nets
inner_count-balanced_series none nets some =
    by_halves (λ xs. inner_count (balanced Series (Leaf none) (map Leaf xs)) + 1 ≡ length xs) (λ x. omega arith)
    (λ xs many front back.
    let h : ℕ = first_half (length xs) in
    let a = length-take h xs in
    let b = length-drop h xs in
    let tree = ap inner_count (balanced-map Series (Leaf none) Leaf xs many) in
    omega (arith, front, back, tree, a, b))
    (length nets) nets some (omega arith)
