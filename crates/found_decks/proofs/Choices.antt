-- A list of choices, one for each element of a list.
use Rattle.std.specs.Prelude.{Some, slice_get}
use Rattle.std.proofs.Common.{List, [], ap, arith, inl, inr, length, refl, subst, suc, sym, zero, ℕ, ◌<◌, ◌∙◌, ◌∷◌, ◌≡◌}
use Rattle.std.proofs.lemmas.Option.{same_Some, slice_get_cases, slice_get_within}
use Rattle.dom_base.proofs.Lists.{slice_get-there}

pub record Chosen {X Y : Type 0} (R : ℕ → X → Y → Type 0) (xs : List X) : Type 0 where
  pub list : List Y
  pub count : length list ≡ length xs
  pub at : (i : ℕ) (x : X) → slice_get xs i ≡ Some x → (y : Y) × (slice_get list i ≡ Some y) × R i x y

pub choose : {X Y : Type 0} (R : ℕ → X → Y → Type 0) (xs : List X) → ((i : ℕ) (x : X) → slice_get xs i ≡ Some x → (y : Y) × R i x y) → Chosen R xs
choose R [] h = record { list = []; count = refl; at = λ i x e. absurd (cc) }
choose {X} {Y} R (x ∷ xs) h =
    let first = h 0 x refl in
    let rest = choose (λ i z y. R (suc i) z y) xs (λ i z e. h (suc i) z e) in
    record { list = first.0 ∷ rest.list; count = ap (λ n. suc n) rest.count; at = λ i z e. behind first.0 first.1 rest.list rest.at i z e }
  where
    behind : (y : Y) → R 0 x y → (ys : List Y) → ((i : ℕ) (z : X) → slice_get xs i ≡ Some z → (y : Y) × (slice_get ys i ≡ Some y) × R (suc i) z y)
        → (i : ℕ) (z : X) → slice_get (x ∷ xs) i ≡ Some z → (v : Y) × (slice_get (y ∷ ys) i ≡ Some v) × R i z v
    behind y r ys k zero z e = (y, refl, subst (λ v. R 0 v y) (same_Some _ _ e) r)
    behind y r ys k (suc i) z e = k i z e

-- each choice is that of an element
pub chosen_from : {X Y : Type 0} (R : ℕ → X → Y → Type 0) (xs : List X) (c : Chosen R xs) (i : ℕ) (y : Y) → slice_get c.list i ≡ Some y
    → (x : X) × (slice_get xs i ≡ Some x) × R i x y
chosen_from R xs c i y e =
    let x = slice_get-there xs i (omega (arith, slice_get_within c.list i y e, c.count)) in
    let z = c.at i x.0 x.1 in
    (x.0, x.1, subst (λ v. R i x.0 v) (same_Some _ _ (sym z.1 ∙ e)) z.2)
