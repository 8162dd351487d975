-- A list of what holds, made from the first number on.
use Rattle.std.proofs.Common.{◌≡◌, ℕ, ◌+◌, ◌<◌, ◌≤◌, ◌↔◌, ◌⊎◌, inl, inr, List, [], ◌∷◌, ◌++◌, length, get_or, Contains, sym, subst, arith}
use Rattle.std.specs.List.Sorted.{IsStrictlyIncreasing}
use Rattle.std.proofs.lemmas.List.{get_or_append_left, get_or_push, length_push, get_or_default}
use Rattle.std.proofs.lemmas.List.Elements.{Contains-append_left, Contains-push, Contains-push_cases}
use Rattle.switch_model.proofs.RisingLists.{rising_is_short}
use Rattle.std.proofs.lemmas.Bool.{cases_eq, cases_lt}

-- the list rises strictly and has exactly the numbers below the bound of which P holds
pub record IsListed (P : ℕ → Type 0) (bound : ℕ) (xs : List ℕ) : Type 0 where
  pub rising : IsStrictlyIncreasing xs
  pub exact : (n : ℕ) → Contains xs n ↔ ((n < bound) × P n)

-- each element is below the bound
pub listed_below : (P : ℕ → Type 0) (bound : ℕ) (xs : List ℕ) (k : ℕ) → IsListed P bound xs → k < length xs → get_or xs k 0 < bound
listed_below P bound xs k h lt = ((h.exact (get_or xs k 0)).0 (k, lt, get_or_default xs k (get_or xs k 0) 0 lt)).0

-- no number below the bound has P
pub listed-none : (P : ℕ → Type 0) (bound : ℕ) → ((n : ℕ) → n < bound → P n → ⊥) → IsListed P bound []
listed-none P bound none = record {
  rising = λ k lt. absurd (omega arith);
  exact = λ n. (λ h. absurd (omega (arith, h.1)), λ h. absurd (none n h.0 h.1));
}

rising-push : (xs : List ℕ) (b : ℕ) → IsStrictlyIncreasing xs → ((k : ℕ) → k < length xs → get_or xs k 0 < b) → IsStrictlyIncreasing (xs ++ b ∷ [])
rising-push xs b rising below k lt = by (cases_lt (k + 1) (length xs))
  where
    by : (k + 1 < length xs) ⊎ (length xs ≤ k + 1) → get_or (xs ++ b ∷ []) k 0 < get_or (xs ++ b ∷ []) (k + 1) 0
    by (inl h) = rw (get_or_append_left xs (b ∷ []) 0 k (omega arith), get_or_append_left xs (b ∷ []) 0 (k + 1) h) (rising k h)
    by (inr h) = rw (get_or_append_left xs (b ∷ []) 0 k (omega (arith, length_push xs b)), get_or_push xs b 0 (k + 1) (omega (arith, length_push xs b))) (below k (omega (arith, length_push xs b)))

-- the next number has P, and is listed
pub listed-push : (P : ℕ → Type 0) (bound : ℕ) (xs : List ℕ) → IsListed P bound xs → P bound → IsListed P (bound + 1) (xs ++ bound ∷ [])
listed-push P bound xs h has = record {
  rising = rising-push xs bound h.rising (λ k lt. listed_below P bound xs k h lt);
  exact = λ n. (λ at. from n (Contains-push_cases xs bound n at), λ at. to n at);
}
  where
    from : (n : ℕ) → Contains xs n ⊎ (bound ≡ n) → (n < bound + 1) × P n
    from n (inl at) = let f = (h.exact n).0 at in (omega (arith, f.0), f.1)
    from n (inr e) = (omega (arith, e), subst P e has)

    to : (n : ℕ) → (n < bound + 1) × P n → Contains (xs ++ bound ∷ []) n
    to n at = by (cases_eq n bound)
      where
        by : (n ≡ bound) ⊎ (n ≡ bound → ⊥) → Contains (xs ++ bound ∷ []) n
        by (inl e) = subst (λ m. Contains (xs ++ bound ∷ []) m) (sym e) (Contains-push xs bound)
        by (inr other) = Contains-append_left xs (bound ∷ []) n ((h.exact n).1 (omega arith, at.1))

-- the next number does not have P
pub listed-skip : (P : ℕ → Type 0) (bound : ℕ) (xs : List ℕ) → IsListed P bound xs → (P bound → ⊥) → IsListed P (bound + 1) xs
listed-skip P bound xs h hasnt = record {
  rising = h.rising;
  exact = λ n. (λ at. let f = (h.exact n).0 at in (omega (arith, f.0), f.1), λ at. (h.exact n).1 (below n at, at.1));
}
  where
    below : (n : ℕ) → (n < bound + 1) × P n → n < bound
    below n at = by (cases_eq n bound)
      where
        by : (n ≡ bound) ⊎ (n ≡ bound → ⊥) → n < bound
        by (inl e) = absurd (hasnt (subst P e at.1))
        by (inr other) = omega arith

-- there are at most as many as the bound
pub listed_length : (P : ℕ → Type 0) (bound : ℕ) (xs : List ℕ) → IsListed P bound xs → length xs ≤ bound
listed_length P bound xs h = rising_is_short bound xs h.rising (λ n at. ((h.exact n).0 at).0)

-- the list rises strictly and has exactly the numbers of which P holds
pub record IsWhole (P : ℕ → Type 0) (xs : List ℕ) : Type 0 where
  pub rising : IsStrictlyIncreasing xs
  pub exact : (n : ℕ) → Contains xs n ↔ P n

-- every number of which P holds is below the bound
pub listed-all : (P : ℕ → Type 0) (bound : ℕ) (xs : List ℕ) → IsListed P bound xs → ((n : ℕ) → P n → n < bound) → IsWhole P xs
listed-all P bound xs h below = record {
  rising = h.rising;
  exact = λ n. (λ at. ((h.exact n).0 at).1, λ has. (h.exact n).1 (below n has, has));
}
