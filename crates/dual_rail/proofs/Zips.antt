-- Lists whose items go together place by place.
use Rattle.std.proofs.Common.{◌≡◌, refl, subst, ℕ, zero, suc, ◌<◌, List, [], ◌∷◌, length, Some, slice_get, get_or, arith}
use Rattle.std.specs.Prelude.{All}
use Rattle.std.specs.List.{AllZip}
use Rattle.std.proofs.lemmas.Option.{slice_get-get_or, same_Some}

pub all_zip_get : {A B : Type 0} (R : A → B → Type 0) (xs : List A) (ys : List B) (k : ℕ) (x : A) → AllZip R xs ys → slice_get xs k ≡ Some x → (y : B) × (slice_get ys k ≡ Some y) × R x y
all_zip_get R [] ys k x h e = absurd (cc)
all_zip_get R (z ∷ xs) [] k x h e = absurd h
all_zip_get R (z ∷ xs) (y ∷ ys) zero x h e = (y, refl, subst (λ u. R u y) (same_Some z x e) h.0)
all_zip_get R (z ∷ xs) (y ∷ ys) (suc k) x h e = all_zip_get R xs ys k x h.1 e

pub all_zip_back : {X Y : Type 0} (R : X → Y → Type 0) (xs : List X) (ys : List Y) (k : ℕ) (y : Y) → AllZip R xs ys → slice_get ys k ≡ Some y → (x : X) × (slice_get xs k ≡ Some x) × R x y
all_zip_back R [] [] k y h e = absurd (cc)
all_zip_back R [] (z ∷ ys) k y h e = absurd h
all_zip_back R (x ∷ xs) [] k y h e = absurd h
all_zip_back R (x ∷ xs) (z ∷ ys) zero y h e = (x, refl, subst (R x) (same_Some z y e) h.0)
all_zip_back R (x ∷ xs) (z ∷ ys) (suc k) y h e = all_zip_back R xs ys k y h.1 e

pub all_from : {X : Type 0} (P : X → Type 0) (xs : List X) → ((k : ℕ) (x : X) → slice_get xs k ≡ Some x → P x) → All P xs
all_from P xs h = λ k d lt. h k (get_or xs k d) (slice_get-get_or xs k d lt)
