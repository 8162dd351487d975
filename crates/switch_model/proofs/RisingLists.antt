-- Lists that rise strictly: they are short, and two with the same items are the same.
use Rattle.std.proofs.Common.{◌≡◌, ℕ, zero, suc, ◌+◌, ◌<◌, ◌≤◌, ◌↔◌, ◌⊎◌, inl, inr, List, [], ◌∷◌, length, get_or, Contains, refl, sym, arith}
use native.Mathlib.Numerals.{unary_clauses}
use Rattle.std.specs.List.Sorted.{IsStrictlyIncreasing}

-- each number is above those before it, and the first is at least the bound
abbrev pub RisesFrom : ℕ → List ℕ → Type 0
RisesFrom bound [] = Unit {0}
RisesFrom bound (x ∷ xs) = (bound ≤ x) × RisesFrom (suc x) xs

pub rises_from : (bound : ℕ) (xs : List ℕ) → IsStrictlyIncreasing xs → (0 < length xs → bound ≤ get_or xs 0 0) → RisesFrom bound xs
rises_from bound [] rising first = tt
rises_from bound (x ∷ xs) rising first =
    (first (omega arith), rises_from (suc x) xs (λ k lt. simp unary_clauses (simp unary_clauses at (rising (suc k) (omega (arith, lt))))) (λ lt. rising 0 (omega (arith, lt))))

-- an element by recursion
abbrev pub IsIn : List ℕ → ℕ → Type 0
IsIn [] n = ⊥
IsIn (x ∷ xs) n = (x ≡ n) ⊎ IsIn xs n

pub is_in : (xs : List ℕ) (n k : ℕ) → k < length xs → get_or xs k n ≡ n → IsIn xs n
is_in [] n k lt e = absurd (omega arith)
is_in (x ∷ xs) n zero lt e = inl e
is_in (x ∷ xs) n (suc k) lt e = inr (is_in xs n k (omega arith) e)

pub contained : (xs : List ℕ) (n : ℕ) → IsIn xs n → Contains xs n
contained [] n at = absurd at
contained (x ∷ xs) n (inl e) = (0, omega arith, e)
contained (x ∷ xs) n (inr at) = let c = contained xs n at in (suc c.0, omega (arith, c.1), c.2)

pub least : (bound : ℕ) (xs : List ℕ) (n : ℕ) → RisesFrom bound xs → IsIn xs n → bound ≤ n
least bound [] n rises at = absurd at
least bound (x ∷ xs) n rises (inl e) = omega (arith, e, rises.0)
least bound (x ∷ xs) n rises (inr at) = omega (arith, least (suc x) xs n rises.1 at, rises.0)

-- lists that rise and have the same elements
same_rising : (bound : ℕ) (xs ys : List ℕ) → RisesFrom bound xs → RisesFrom bound ys
    → ((n : ℕ) → IsIn xs n → IsIn ys n) → ((n : ℕ) → IsIn ys n → IsIn xs n) → xs ≡ ys
same_rising bound [] [] a b to from = refl
same_rising bound [] (y ∷ ys) a b to from = absurd (from y (inl refl))
same_rising bound (x ∷ xs) [] a b to from = absurd (to x (inl refl))
same_rising bound (x ∷ xs) (y ∷ ys) a b to from =
    let e : x ≡ y = heads (to x (inl refl)) (from y (inl refl)) in
    let rest = same_rising (suc x) xs ys a.1 (rw e b.1) (λ n at. tail ys y n (least (suc x) xs n a.1 at) e (to n (inr at))) (λ n at. tail xs x n (omega (arith, least (suc y) ys n b.1 at, e)) refl (from n (inr at))) in
    cc
  where
    heads : IsIn (y ∷ ys) x → IsIn (x ∷ xs) y → x ≡ y
    heads (inl e) at = sym e
    heads (inr more) (inl e) = e
    heads (inr more) (inr again) = omega (arith, least (suc y) ys x b.1 more, least (suc x) xs y a.1 again)

    tail : (zs : List ℕ) (z n : ℕ) → suc x ≤ n → x ≡ z → IsIn (z ∷ zs) n → IsIn zs n
    tail zs z n above e (inl same) = absurd (omega (arith, above, e, same))
    tail zs z n above e (inr at) = at

-- two lists that rise strictly and have the same elements are one
pub rising_are_one : (xs ys : List ℕ) → IsStrictlyIncreasing xs → IsStrictlyIncreasing ys → ((n : ℕ) → Contains xs n ↔ Contains ys n) → xs ≡ ys
rising_are_one xs ys a b same =
    same_rising 0 xs ys (rises_from 0 xs a (λ lt. omega arith)) (rises_from 0 ys b (λ lt. omega arith))
    (λ n at. let c = (same n).0 (contained xs n at) in is_in ys n c.0 c.1 c.2)
    (λ n at. let c = (same n).1 (contained ys n at) in is_in xs n c.0 c.1 c.2)

-- a rising list of numbers below a bound is no longer than the bound
rising_length : (low bound : ℕ) (xs : List ℕ) → RisesFrom low xs → ((n : ℕ) → IsIn xs n → n < bound) → low ≤ bound → low + length xs ≤ bound
rising_length low bound [] rises below le = omega arith
rising_length low bound (x ∷ xs) rises below le =
    omega (arith, rises.0, rising_length (suc x) bound xs rises.1 (λ n at. below n (inr at)) (omega (arith, below x (inl refl))))

pub rising_is_short : (bound : ℕ) (xs : List ℕ) → IsStrictlyIncreasing xs → ((n : ℕ) → Contains xs n → n < bound) → length xs ≤ bound
rising_is_short bound xs rising below =
    omega (arith, rising_length 0 bound xs (rises_from 0 xs rising (λ lt. omega arith)) (λ n at. below n (contained xs n at)) (omega arith))
