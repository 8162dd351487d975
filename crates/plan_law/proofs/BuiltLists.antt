-- Lists and functions that are put together from what is there at each place.
use Rattle.std.proofs.Common.{◌≡◌, ℕ, zero, suc, ◌<◌, List, [], ◌∷◌, length, Some, slice_get, refl, ap, ap₂, subst, arith}
use Rattle.std.specs.List.{AllZip}
use Rattle.std.proofs.lemmas.Option.{same_Some}

-- where something is there for each item, there is a list of it
pub zip_there : {X Y : Type 0} (R : X → Y → Type 0) (xs : List X) → ((k : ℕ) (x : X) → slice_get xs k ≡ Some x → (y : Y) × R x y)
    → (ys : List Y) × AllZip R xs ys
zip_there R [] each = ([], tt)
zip_there R (x ∷ xs) each =
    let first = each 0 x refl in
    let rest = zip_there R xs (λ k y e. each (suc k) y e) in
    (first.0 ∷ rest.0, (first.1, rest.1))

-- where something is there for each of so many places, there is a list of it
pub list_there : {X : Type 0} (P : ℕ → X → Type 0) (n : ℕ) → ((k : ℕ) → k < n → (x : X) × P k x)
    → (xs : List X) × (length xs ≡ n) × ((k : ℕ) (x : X) → slice_get xs k ≡ Some x → P k x)
list_there P zero each = ([], refl, λ k x e. absurd (cc))
list_there {X} P (suc n) each =
    let first = each 0 (omega arith) in
    let rest = list_there (λ k x. P (suc k) x) n (λ k lt. each (suc k) (omega (arith, lt))) in
    (first.0 ∷ rest.0, ap suc rest.1, at first.0 first.1 rest.0 rest.2)
  where
    at : (y : X) → P 0 y → (ys : List X) → ((k : ℕ) (x : X) → slice_get ys k ≡ Some x → P (suc k) x)
        → (k : ℕ) (x : X) → slice_get (y ∷ ys) k ≡ Some x → P k x
    at y here ys more zero x e = subst (P 0) (same_Some y x e) here
    at y here ys more (suc k) x e = more k x e

-- each number's value is given by the values of lower numbers
module _ {X : Type 0} (none : X) (step : (ℕ → X) → ℕ → X)
    (lower : (f g : ℕ → X) (n : ℕ) → ((m : ℕ) → m < n → f m ≡ g m) → step f n ≡ step g n) where
  -- the values after so many rounds
  abbrev value_by : ℕ → ℕ → X
  value_by zero n = none
  value_by (suc rounds) n = step (value_by rounds) n

  value_stays : (d e n : ℕ) → n < d → n < e → value_by d n ≡ value_by e n
  value_stays zero e n l m = absurd (omega (arith, l))
  value_stays (suc d) zero n l m = absurd (omega (arith, m))
  value_stays (suc d) (suc e) n l m =
      lower (value_by d) (value_by e) n (λ k less. value_stays d e k (omega (arith, less, l)) (omega (arith, less, m)))

  pub values_there : (value : ℕ → X) × ((n : ℕ) → value n ≡ step value n)
  values_there = (
    (λ n. value_by (suc n) n),
    (λ n. lower (value_by n) (λ m. value_by (suc m) m) n (λ m less. value_stays n (suc m) m less (omega arith))),
  )

-- lists with the same at each place are one
pub lists_same : {X : Type 0} (xs ys : List X) → length xs ≡ length ys
    → ((k : ℕ) (x y : X) → slice_get xs k ≡ Some x → slice_get ys k ≡ Some y → x ≡ y) → xs ≡ ys
lists_same [] [] count each = refl
lists_same [] (y ∷ ys) count each = absurd (omega (arith, count))
lists_same (x ∷ xs) [] count each = absurd (omega (arith, count))
lists_same (x ∷ xs) (y ∷ ys) count each =
    ap₂ (λ z zs. z ∷ zs) (each 0 x y refl refl) (lists_same xs ys (omega (arith, count)) (λ k. each (suc k)))
