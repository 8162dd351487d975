-- Facts of lists: elements at places, what holds of each element, and counts.
use Rattle.std.proofs.Common.{◌≡◌, ℕ, zero, suc, ◌<◌, ◌≤◌, max, cond, Bool, true, List, [], ◌∷◌, map, take, Some, refl, ap, ◌∙◌, arith}
use Rattle.std.specs.Prelude.{Contains, slice_get}
use Rattle.std.specs.List.{AllByRecursion, count_by, flat_map, fold}
use Rattle.std.proofs.Math.Nat.{le-max_left, le-max_right}
use Rattle.std.proofs.lemmas.List.Sums.{sum_by-cons}
use Rattle.dom_base.proofs.Lists.{AllByRecursion-contains, AllByRecursion-from_places, AllByRecursion-left, AllByRecursion-map, AllByRecursion-right, Contains-slice_get}

pub get_map : {X Y : Type 0} (g : X → Y) (xs : List X) (k : ℕ) (x : X) → slice_get xs k ≡ Some x → slice_get (map g xs) k ≡ Some (g x)
get_map g [] k x e = absurd cc
get_map g (z ∷ zs) zero x e = let i : z ≡ x = cc in ap (λ w. Some (g w)) i
get_map g (z ∷ zs) (suc k) x e = get_map g zs k x e

-- what stands at an index of a list of values
pub get_of_map : {X Y : Type 0} (g : X → Y) (xs : List X) (k : ℕ) (y : Y) → slice_get (map g xs) k ≡ Some y → (x : X) × (slice_get xs k ≡ Some x) × (g x ≡ y)
get_of_map g [] k y e = absurd cc
get_of_map g (x ∷ xs) zero y e = (x, refl, cc)
get_of_map g (x ∷ xs) (suc k) y e = get_of_map g xs k y e

pub get_take : {X : Type 0} (xs : List X) (j k : ℕ) (x : X) → j < k → slice_get xs j ≡ Some x → slice_get (take k xs) j ≡ Some x
get_take [] j k x l e = absurd cc
get_take (z ∷ zs) j zero x l e = absurd (omega (arith, l))
get_take (z ∷ zs) zero (suc k) x l e = e
get_take (z ∷ zs) (suc j) (suc k) x l e = get_take zs j k x (omega (arith, l)) e

pub each_of_flat : {X Y : Type 0} (P : Y → Type 0) (g : X → List Y) (xs : List X) → AllByRecursion P (flat_map g xs) → AllByRecursion (λ x. AllByRecursion P (g x)) xs
each_of_flat P g [] h = tt
each_of_flat P g (x ∷ xs) h = (AllByRecursion-left P (g x) (flat_map g xs) h, each_of_flat P g xs (AllByRecursion-right P (g x) (flat_map g xs) h))

-- an element of a list of values is the value of an element
abbrev pub IsImage : {X Y : Type 0} → (X → Y) → List X → Y → Type 0
IsImage {X} {Y} g xs y = (x : X) × Contains xs x × (y ≡ g x)

pub contains_map : {X Y : Type 0} (g : X → Y) (xs : List X) (y : Y) → Contains (map g xs) y → IsImage g xs y
contains_map {X} {Y} g xs y c =
    AllByRecursion-contains (IsImage g xs) (map g xs) y
    (AllByRecursion-map (IsImage g xs) g xs (AllByRecursion-from_places (λ x. IsImage g xs (g x)) xs (λ k x e. (x, Contains-slice_get xs k x e, refl)))) c

-- an element that stands at two places counts twice
pub count_once : {X : Type 0} (p : X → Bool) (xs : List X) (k : ℕ) (x : X) → slice_get xs k ≡ Some x → p x ≡ true → 0 < count_by p xs
count_once p [] k x e t = absurd cc
count_once p (z ∷ zs) zero x e t = let i : z ≡ x = cc in
    let c : ◌≡◌ {A = ℕ} (cond (p z) 1 0) 1 = ap (λ b. cond b 1 0) (ap p i ∙ t) in
    omega (arith, sum_by-cons (λ w. cond (p w) 1 0) z zs, c)
count_once p (z ∷ zs) (suc k) x e t = omega (arith, sum_by-cons (λ w. cond (p w) 1 0) z zs, count_once p zs k x e t)

pub count_twice : {X : Type 0} (p : X → Bool) (xs : List X) (j k : ℕ) (x y : X) → j < k → slice_get xs j ≡ Some x → slice_get xs k ≡ Some y → p x ≡ true → p y ≡ true → 1 < count_by p xs
count_twice p [] j k x y l e f t u = absurd cc
count_twice p (z ∷ zs) j zero x y l e f t u = absurd (omega (arith, l))
count_twice p (z ∷ zs) zero (suc k) x y l e f t u = let i : z ≡ x = cc in
    let c : ◌≡◌ {A = ℕ} (cond (p z) 1 0) 1 = ap (λ b. cond b 1 0) (ap p i ∙ t) in
    omega (arith, sum_by-cons (λ w. cond (p w) 1 0) z zs, c, count_once p zs k y f u)
count_twice p (z ∷ zs) (suc j) (suc k) x y l e f t u = omega (arith, sum_by-cons (λ w. cond (p w) 1 0) z zs, count_twice p zs j k x y (omega (arith, l)) e f t u)

pub le_greatest : (a : ℕ) (xs : List ℕ) → a ≤ fold max a xs
le_greatest a [] = omega arith
le_greatest a (x ∷ xs) = omega (arith, le-max_left a x, le_greatest (max a x) xs)

pub each_le_greatest : (a : ℕ) (xs : List ℕ) → AllByRecursion (λ x. x ≤ fold max a xs) xs
each_le_greatest a [] = tt
each_le_greatest a (x ∷ xs) = (omega (arith, le-max_right a x, le_greatest (max a x) xs), each_le_greatest (max a x) xs)

pub map_same : {X Y : Type 0} (f g : X → Y) (xs : List X) → AllByRecursion (λ x. f x ≡ g x) xs → map f xs ≡ map g xs
map_same f g [] h = refl
map_same f g (x ∷ xs) h = ap (λ y. y ∷ map f xs) h.0 ∙ ap (λ l. g x ∷ l) (map_same f g xs h.1)
