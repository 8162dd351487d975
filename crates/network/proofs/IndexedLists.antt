-- What stands at an index of a list that was set, appended to or cut.
use Rattle.std.proofs.Common.{◌≡◌, ℕ, zero, suc, ◌<◌, ◌+◌, ◌⊎◌, inl, inr, List, [], ◌∷◌, ◌++◌, drop, length, map, replicate, take, set, Some, refl, ap, sym, ◌∙◌, arith}
use Rattle.std.specs.Prelude.{◌≢◌, Contains, slice_get}

module _ {X : Type 0} where
  -- what stands at an index after one was set
  pub get_set : (xs : List X) (i j : ℕ) (y z : X) → slice_get (set xs i y) j ≡ Some z → ((j ≡ i) × (y ≡ z)) ⊎ ((j ≢ i) × (slice_get xs j ≡ Some z))
  get_set [] i j y z e = absurd cc
  get_set (x ∷ xs) zero zero y z e = inl (refl, cc)
  get_set (x ∷ xs) zero (suc j) y z e = inr ((λ i. omega (arith, i)), e)
  get_set (x ∷ xs) (suc i) zero y z e = inr ((λ i. omega (arith, i)), e)
  get_set (x ∷ xs) (suc i) (suc j) y z e = elim (get_set xs i j y z e) [
    | inl h ↦ inl (ap suc h.0, h.1)
    | inr h ↦ inr ((λ i. h.0 (omega (arith, i))), h.1)
  ]

  pub get_replicate : (n : ℕ) (x : X) (k : ℕ) (y : X) → slice_get (replicate n x) k ≡ Some y → x ≡ y
  get_replicate zero x k y e = absurd cc
  get_replicate (suc n) x zero y e = cc
  get_replicate (suc n) x (suc k) y e = get_replicate n x k y e

  -- the front of a list with one element more
  pub take_next : (xs : List X) (k : ℕ) (x : X) → slice_get xs k ≡ Some x → take (k + 1) xs ≡ take k xs ++ x ∷ []
  take_next [] k x e = absurd cc
  take_next (y ∷ ys) zero x e = let i : y ≡ x = cc in ap (λ z. z ∷ []) i
  take_next (y ∷ ys) (suc k) x e = let one : suc k + 1 ≡ suc (k + 1) = omega arith in ap (λ n. take n (y ∷ ys)) one ∙ ap (λ l. y ∷ l) (take_next ys k x e)

  -- a list is what stands before an index, the element there, and what follows
  pub split_at : (xs : List X) (k : ℕ) (x : X) → slice_get xs k ≡ Some x → xs ≡ take k xs ++ x ∷ drop (suc k) xs
  split_at [] k x e = absurd cc
  split_at (y ∷ ys) zero x e = let i : y ≡ x = cc in ap (λ z. z ∷ ys) i
  split_at (y ∷ ys) (suc k) x e = ap (λ l. y ∷ l) (split_at ys k x e)

  -- what stands in a front of a list stands there in the list
  pub take_get : (xs : List X) (k j : ℕ) (x : X) → slice_get (take k xs) j ≡ Some x → (j < k) × (slice_get xs j ≡ Some x)
  take_get [] zero j x e = absurd cc
  take_get [] (suc k) j x e = absurd cc
  take_get (y ∷ ys) zero j x e = absurd cc
  take_get (y ∷ ys) (suc k) zero x e = (omega arith, e)
  take_get (y ∷ ys) (suc k) (suc j) x e = let h = take_get ys k j x e in (omega (arith, h.0), h.1)

  -- an element by its index
  pub index_of : (xs : List X) (x : X) → Contains xs x → (k : ℕ) × (slice_get xs k ≡ Some x)
  index_of [] x (k, l, e) = absurd (omega (arith, l))
  index_of (y ∷ ys) x (zero, l, e) = (0, ap Some e)
  index_of (y ∷ ys) x (suc k, l, e) = let h = index_of ys x (k, omega (arith, l), e) in (suc h.0, h.1)

  pub get_left : (xs ys : List X) (k : ℕ) (x : X) → slice_get (xs ++ ys) k ≡ Some x → (slice_get xs k ≡ Some x) ⊎ ((j : ℕ) × (k ≡ length xs + j) × (slice_get ys j ≡ Some x))
  get_left [] ys k x e = inr (k, omega arith, e)
  get_left (y ∷ xs) ys zero x e = inl e
  get_left (y ∷ xs) ys (suc k) x e = elim (get_left xs ys k x e) [
    | inl h ↦ inl h
    | inr h ↦ inr (h.0, omega (arith, h.1), h.2)
  ]

-- lists whose images agree, element by element
pub same_at : {X Y Z : Type 0} (g : X → Z) (h : Y → Z) (xs : List X) (ys : List Y) (k : ℕ) (x : X) → map g xs ≡ map h ys → slice_get xs k ≡ Some x
    → (y : Y) × (slice_get ys k ≡ Some y) × (g x ≡ h y)
same_at g h [] ys k x e there = absurd cc
same_at g h (z ∷ xs) [] k x e there = absurd cc
same_at g h (z ∷ xs) (y ∷ ys) zero x e there = let i : z ≡ x = cc in let d : g z ≡ h y = cc in (y, refl, ap g (sym i) ∙ d)
same_at g h (z ∷ xs) (y ∷ ys) (suc k) x e there = let d : map g xs ≡ map h ys = cc in same_at g h xs ys k x d there

pub same_take : {X Y Z : Type 0} (g : X → Z) (h : Y → Z) (xs : List X) (ys : List Y) (k : ℕ) → map g xs ≡ map h ys → map g (take k xs) ≡ map h (take k ys)
same_take g h xs ys zero e = refl
same_take g h [] [] (suc k) e = refl
same_take g h [] (y ∷ ys) (suc k) e = absurd cc
same_take g h (x ∷ xs) [] (suc k) e = absurd cc
same_take g h (x ∷ xs) (y ∷ ys) (suc k) e =
    let d : map g xs ≡ map h ys = cc in let i : g x ≡ h y = cc in let rest = same_take g h xs ys k d in cc
