-- A list in which no number stands twice is no longer than one that has its numbers.
use Rattle.std.specs.Prelude.{Contains, Some, slice_get}
use Rattle.std.proofs.Common.{List, [], ap, arith, length, refl, subst, suc, sym, zero, ℕ, ◌∙◌, ◌∷◌, ◌≡◌, ◌≤◌}
use Rattle.std.proofs.lemmas.Option.{same_Some, slice_get_within}
use Rattle.dom_base.proofs.Lists.{slice_get-contained}
use Rattle.link_reduce.specs.Parts.{IsOnce}
use Rattle.link_reduce.proofs.ShortTrees.{once_short}

-- where the numbers of a list stand in another
record Positions (xs ys : List ℕ) : Type 0 where
  pub at : List ℕ
  pub count : length at ≡ length xs
  pub each : (i j : ℕ) → slice_get at i ≡ Some j → (x : ℕ) × (slice_get xs i ≡ Some x) × (slice_get ys j ≡ Some x)

positions : (xs ys : List ℕ) → ((i x : ℕ) → slice_get xs i ≡ Some x → Contains ys x) → Positions xs ys
positions [] ys h = record { at = []; count = refl; each = λ i j e. absurd (cc) }
positions (x ∷ xs) ys h =
    let first = slice_get-contained ys x (h 0 x refl) in
    let rest = positions xs ys (λ i y e. h (suc i) y e) in
    record { at = first.0 ∷ rest.at; count = ap (λ n. suc n) rest.count; each = each first rest }
  where
    each : (first : (j : ℕ) × (slice_get ys j ≡ Some x)) (rest : Positions xs ys) (i j : ℕ) → slice_get (first.0 ∷ rest.at) i ≡ Some j
        → (y : ℕ) × (slice_get (x ∷ xs) i ≡ Some y) × (slice_get ys j ≡ Some y)
    each first rest zero j e = (x, refl, subst (λ k. slice_get ys k ≡ Some x) (same_Some _ _ e) first.1)
    each first rest (suc i) j e = rest.each i j e

pub no_longer : (xs ys : List ℕ) → IsOnce xs → ((i x : ℕ) → slice_get xs i ≡ Some x → Contains ys x) → length xs ≤ length ys
no_longer xs ys once h =
    let p = positions xs ys h in
    let short = once_short p.at (length ys) (λ i k j a b. same p i k j a b) (λ i j a. slice_get_within ys j (p.each i j a).0 (p.each i j a).2) in
    omega (arith, short, p.count)
  where
    same : (p : Positions xs ys) (i k j : ℕ) → slice_get p.at i ≡ Some j → slice_get p.at k ≡ Some j → i ≡ k
    same p i k j a b =
        let u = p.each i j a in
        let v = p.each k j b in
        once i k u.0 u.1 (v.1 ∙ ap Some (same_Some _ _ (sym v.2 ∙ u.2)))
