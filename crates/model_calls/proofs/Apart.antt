-- Lists whose elements all differ.
use Rattle.std.proofs.Common.{◌≡◌, ℕ, zero, suc, ◌<◌, Bool, true, false, List, [], ◌∷◌, ◌++◌, Some, refl, ap, sym, ◌∙◌, arith}
use Rattle.std.specs.Prelude.{◌≢◌, nat_lt, slice_get, if◌then◌else◌}
use Rattle.std.specs.List.{AllByRecursion}
use Rattle.dom_base.proofs.Lists.{AllByRecursion-append, AllByRecursion-contains, AllByRecursion-from_places, Contains-slice_get}
use Rattle.model_calls.specs.Ordered.{in_order, with_element}

module _ {X : Type 0} where
  abbrev pub Apart : List X → Type 0
  Apart [] = Unit {0}
  Apart (x ∷ xs) = AllByRecursion (λ y. x ≢ y) xs × Apart xs

  -- the elements of one list differ from those of another
  abbrev pub Across : List X → List X → Type 0
  Across xs ys = AllByRecursion (λ x. AllByRecursion (λ y. x ≢ y) ys) xs

  pub Apart-append : (xs ys : List X) → Apart xs → Apart ys → Across xs ys → Apart (xs ++ ys)
  Apart-append [] ys a b c = b
  Apart-append (x ∷ xs) ys a b c = (AllByRecursion-append (λ y. x ≢ y) xs ys a.0 c.0, Apart-append xs ys a.1 b c.1)

  pub place_once : (xs : List X) (j k : ℕ) (x : X) → Apart xs → slice_get xs j ≡ Some x → slice_get xs k ≡ Some x → j ≡ k
  place_once [] j k x a e f = absurd cc
  place_once (y ∷ ys) zero zero x a e f = refl
  place_once (y ∷ ys) zero (suc k) x a e f = let z : y ≡ x = cc in absurd (AllByRecursion-contains (λ w. y ≢ w) ys x a.0 (Contains-slice_get ys k x f) z)
  place_once (y ∷ ys) (suc j) zero x a e f = let z : y ≡ x = cc in absurd (AllByRecursion-contains (λ w. y ≢ w) ys x a.0 (Contains-slice_get ys j x e) z)
  place_once (y ∷ ys) (suc j) (suc k) x a e f = ap suc (place_once ys j k x a.1 e f)

  pub apart_from_places : (xs : List X) → ((j k : ℕ) (x y : X) → j < k → slice_get xs j ≡ Some x → slice_get xs k ≡ Some y → x ≢ y) → Apart xs
  apart_from_places [] h = tt
  apart_from_places (x ∷ xs) h = (AllByRecursion-from_places (λ y. x ≢ y) xs (λ k y. h 0 (suc k) x y (omega arith) refl), apart_from_places xs (λ j k a b l. h (suc j) (suc k) a b (omega (arith, l))))

  -- putting in order keeps what holds of each element
  pub each_with : (n : X → ℕ) (P : X → Type 0) (e : X) (xs : List X) → P e → AllByRecursion P xs → AllByRecursion P (with_element n e xs)
  each_with n P e [] p h = (p, tt)
  each_with n P e (x ∷ xs) p h = by (each_with n P e xs p h.1) (nat_lt (n x) (n e))
    where
      by : AllByRecursion P (with_element n e xs) → (b : Bool) → AllByRecursion P (if b then x ∷ with_element n e xs else e ∷ x ∷ xs)
      by rest true = (h.0, rest)
      by rest false = (p, (h.0, h.1))

  pub each_in_order : (n : X → ℕ) (P : X → Type 0) (xs : List X) → AllByRecursion P xs → AllByRecursion P (in_order n xs)
  each_in_order n P [] h = tt
  each_in_order n P (x ∷ xs) h = each_with n P x (in_order n xs) h.0 (each_in_order n P xs h.1)

  -- elements that differ by a value stay so
  abbrev pub ApartBy : {Y : Type 0} → (X → Y) → List X → Type 0
  ApartBy g [] = Unit {0}
  ApartBy g (x ∷ xs) = AllByRecursion (λ y. g x ≢ g y) xs × ApartBy g xs

  pub apart_by_places : {Y : Type 0} (g : X → Y) (xs : List X)
      → ((j k : ℕ) (x y : X) → j < k → slice_get xs j ≡ Some x → slice_get xs k ≡ Some y → g x ≢ g y) → ApartBy g xs
  apart_by_places g [] h = tt
  apart_by_places g (x ∷ xs) h = (
    AllByRecursion-from_places (λ y. g x ≢ g y) xs (λ k y. h 0 (suc k) x y (omega arith) refl),
    apart_by_places g xs (λ j k a b l. h (suc j) (suc k) a b (omega (arith, l))),
  )

  apart_with : {Y : Type 0} (n : X → ℕ) (g : X → Y) (e : X) (xs : List X) → AllByRecursion (λ y. g e ≢ g y) xs → ApartBy g xs → ApartBy g (with_element n e xs)
  apart_with n g e [] h a = (tt, tt)
  apart_with n g e (x ∷ xs) h a = by (apart_with n g e xs h.1 a.1) (nat_lt (n x) (n e))
    where
      by : ApartBy g (with_element n e xs) → (b : Bool) → ApartBy g (if b then x ∷ with_element n e xs else e ∷ x ∷ xs)
      by rest true = (each_with n (λ y. g x ≢ g y) e xs (λ z. h.0 (sym z)) a.0, rest)
      by rest false = (h, a)

  pub apart_in_order : {Y : Type 0} (n : X → ℕ) (g : X → Y) (xs : List X) → ApartBy g xs → ApartBy g (in_order n xs)
  apart_in_order n g [] a = tt
  apart_in_order n g (x ∷ xs) a = apart_with n g x (in_order n xs) (each_in_order n (λ y. g x ≢ g y) xs a.0) (apart_in_order n g xs a.1)

  -- lists in order by numbers that agree on them
  with_same : (n m : X → ℕ) (e : X) (xs : List X) → n e ≡ m e → AllByRecursion (λ x. n x ≡ m x) xs → with_element n e xs ≡ with_element m e xs
  with_same n m e [] p h = refl
  with_same n m e (x ∷ xs) p h =
      ap (λ b. if b then x ∷ with_element n e xs else e ∷ x ∷ xs) (ap (λ k. nat_lt k (n e)) h.0 ∙ ap (nat_lt (m x)) p)
      ∙ ap (λ l. if nat_lt (m x) (m e) then x ∷ l else e ∷ x ∷ xs) (with_same n m e xs p h.1)

  pub in_order_same : (n m : X → ℕ) (xs : List X) → AllByRecursion (λ x. n x ≡ m x) xs → in_order n xs ≡ in_order m xs
  in_order_same n m [] h = refl
  in_order_same n m (x ∷ xs) h =
      with_same n m x (in_order n xs) h.0 (each_in_order n (λ y. n y ≡ m y) xs h.1) ∙ ap (with_element m x) (in_order_same n m xs h.1)
