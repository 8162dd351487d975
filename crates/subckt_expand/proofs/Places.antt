-- Lists that grow.
use Rattle.std.proofs.Common.{◌≡◌, ◌<◌, ℕ, zero, suc, List, [], ◌∷◌, ◌++◌, length, map, set, slice_index_or, refl, ap, arith}
use Rattle.deck.specs.CircuitData.{CircuitData}
use Rattle.deck.specs.NamedDevices.{NamedDevice, with_devices}
use Rattle.deck.specs.Pushes.{pushed}

-- an item of a list is that of a longer one
pub index_or-append : {X : Type 0} (xs ys : List X) (i : ℕ) (d : X) → i < length xs → slice_index_or (xs ++ ys) i d ≡ slice_index_or xs i d
index_or-append [] ys i d lt = absurd (omega arith)
index_or-append (x ∷ xs) ys zero d lt = refl
index_or-append (x ∷ xs) ys (suc i) d lt = index_or-append xs ys i d (omega arith)

pub index_or-map : {X Y : Type 0} (f : X → Y) (xs : List X) (i : ℕ) (d : X) (e : Y) → i < length xs → slice_index_or (map f xs) i e ≡ f (slice_index_or xs i d)
index_or-map f [] i d e lt = absurd (omega arith)
index_or-map f (x ∷ xs) zero d e lt = refl
index_or-map f (x ∷ xs) (suc i) d e lt = index_or-map f xs i d e (omega arith)

-- what was set in a list, by images
pub map_set : {X Y : Type 0} (f : X → Y) (xs : List X) (i : ℕ) (x : X) → map f (set xs i x) ≡ set (map f xs) i (f x)
map_set f [] i x = refl
map_set f (y ∷ ys) zero x = refl
map_set f (y ∷ ys) (suc i) x = ap (λ l. f y ∷ l) (map_set f ys i x)
