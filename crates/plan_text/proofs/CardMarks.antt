-- The marks of cards whose numbers follow one another.
use Rattle.std.proofs.Common.{◌≡◌, ℕ, ◌+◌, ◌/◌, ◌%◌, ◌^◌, ◌<◌, inl, inr, List, [], ◌∷◌, ◌++◌, length, refl, sym, ap, ◌∙◌, arith, append_assoc, length-append}
use Rattle.std.specs.Prelude.{codes}
use Rattle.std.specs.Fmt.{decimal}
use Rattle.std.proofs.lemmas.Bool.{cases_lt}
use Rattle.std.proofs.lemmas.Fmt.{decimal_digit, decimal_step}

-- equal texts have the same last byte, and the same before it
pub last_same : (xs ys : List ℕ) (a b : ℕ) → xs ++ a ∷ [] ≡ ys ++ b ∷ [] → (xs ≡ ys) × (a ≡ b)
last_same [] [] a b e = (refl, cc)
last_same [] (y ∷ ys) a b e = absurd (let rest : [] ≡ ys ++ b ∷ [] = cc in omega (arith, ap length rest, length-append ys (b ∷ [])))
last_same (x ∷ xs) [] a b e = absurd (let rest : xs ++ a ∷ [] ≡ [] = cc in omega (arith, ap length rest, length-append xs (a ∷ [])))
last_same (x ∷ xs) (y ∷ ys) a b e =
    let first : x ≡ y = cc in
    let rest : xs ++ a ∷ [] ≡ ys ++ b ∷ [] = cc in
    let same = last_same xs ys a b rest in
    ((λ i. first i ∷ same.0 i), same.1)

-- a number by its digits but the last, which the numbers have in common that differ in the last alone
pub but_last : (n : ℕ) → n < 2 ^ 64
    → (front : List ℕ) × ((m : ℕ) → m < 2 ^ 64 → m / 10 ≡ n / 10 → decimal m ≡ front ++ (48 + m % 10) ∷ [])
but_last n fits = elim (cases_lt n 10) [
  | inl small ↦ (
    [],
    λ m f e. let few : m < 10 = omega (arith, e, small) in let same : m ≡ m % 10 = omega (arith, few) in
        decimal_digit m few ∙ ap (λ d. (48 + d) ∷ []) same,
  )
  | inr large ↦ (decimal (n / 10), λ m f e. decimal_step m (omega (arith, e, large)) f ∙ ap (λ k. decimal k ++ (48 + m % 10) ∷ []) e)
]

-- the next mark, where the last digit can rise
pub next_by_digit : (n : ℕ) (now next front : List ℕ) (digit : ℕ) → n + 1 < 2 ^ 64 → now ≡ codes "m" ++ decimal n
    → now ≡ front ++ digit ∷ [] → digit < 57 → next ≡ front ++ (digit + 1) ∷ [] → next ≡ codes "m" ++ decimal (n + 1)
next_by_digit n now next front digit fits is by low after =
    let p = but_last n (omega (arith, fits)) in
    let own : decimal n ≡ p.0 ++ (48 + n % 10) ∷ [] = p.1 n (omega (arith, fits)) refl in
    let whole : front ++ digit ∷ [] ≡ (codes "m" ++ p.0) ++ (48 + n % 10) ∷ [] =
    sym by ∙ is ∙ ap (λ l. codes "m" ++ l) own ∙ sym (append_assoc (codes "m") p.0 ((48 + n % 10) ∷ [])) in
    let same = last_same front (codes "m" ++ p.0) digit (48 + n % 10) whole in
    let tens : (n + 1) / 10 ≡ n / 10 = omega (arith, low, same.1) in
    let ones : digit + 1 ≡ 48 + (n + 1) % 10 = omega (arith, low, same.1) in
    after ∙ (λ i. same.0 i ++ ones i ∷ []) ∙ append_assoc (codes "m") p.0 ((48 + (n + 1) % 10) ∷ [])
    ∙ ap (λ l. codes "m" ++ l) (sym (p.1 (n + 1) fits tens))
