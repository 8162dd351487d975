-- Lists without a common element, by an equality of elements.
use Rattle.std.specs.Prelude.{◌≡◌, Bool, false, List}
use Rattle.std.specs.List.{AllByRecursion}

-- each element of the first list differs from each of the second
abbrev pub AreApart : {X : Type 0} → (X → X → Bool) → List X → List X → Type 0
AreApart eq xs ys = AllByRecursion (λ x. AllByRecursion (λ y. eq x y ≡ false) ys) xs
