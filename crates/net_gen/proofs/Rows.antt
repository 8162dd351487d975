-- Lists that grow by one element of a row of numbers.
use Rattle.std.proofs.Common.{◌≡◌, ℕ, ◌+◌, List, [], ◌∷◌, ◌++◌, map, sym, ap, ◌∙◌, append_assoc}
use Rattle.std.specs.List.{range_with_len}
use Rattle.std.proofs.lemmas.List.FromFn.{map-range_with_len_more}

-- behind a list, the element of the next number is pushed
pub pushed_behind : {X : Type 0} (f : ℕ → X) (front : List X) (a n j : ℕ) {xs ys : List X} {x : X} → a + n ≡ j
    → xs ≡ ys ++ x ∷ [] → ys ≡ front ++ map f (range_with_len a n) → x ≡ f j → xs ≡ front ++ map f (range_with_len a (n + 1))
pushed_behind f front a n j at is same item =
    is ∙ (λ i. same i ++ item i ∷ []) ∙ append_assoc front (map f (range_with_len a n)) (f j ∷ [])
    ∙ ap (λ l. front ++ l) (sym (map-range_with_len_more f a n j at))

pub pushed : {X : Type 0} (f : ℕ → X) (a n j : ℕ) {xs ys : List X} {x : X} → a + n ≡ j
    → xs ≡ ys ++ x ∷ [] → ys ≡ map f (range_with_len a n) → x ≡ f j → xs ≡ map f (range_with_len a (n + 1))
pushed f a n j at is same item = pushed_behind f [] a n j at is same item
