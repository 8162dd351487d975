-- Items that stand in pairs one behind the other.
use Rattle.std.proofs.Common.{◌≡◌, ℕ, zero, suc, ◌<◌, ◌≤◌, ◌+◌, ◌-◌, ◌*◌, ◌/◌, List, [], ◌∷◌, length, Some, refl, ap, ◌∙◌, arith}
use Rattle.std.specs.Prelude.{slice_get, slice_index_or}
use Rattle.std.proofs.lemmas.Option.{slice_get-get_or}
use Rattle.local_names.specs.LocalNames.{firsts, seconds}

pub length-seconds : (xs : List ℕ) → length (seconds xs) ≡ length (firsts xs)
length-seconds [] = refl
length-seconds (a ∷ []) = refl
length-seconds (a ∷ b ∷ more) = ap suc (length-seconds more)

-- as many pairs as half of the items
pub pairs_half : (xs : List ℕ) (half : ℕ) → half + half ≤ length xs → length xs < half + half + 2 → length (firsts xs) ≡ half
pairs_half [] zero low high = refl
pairs_half [] (suc half) low high = absurd (omega (arith, low))
pairs_half (a ∷ []) zero low high = refl
pairs_half (a ∷ []) (suc half) low high = absurd (omega (arith, low))
pairs_half (a ∷ b ∷ more) zero low high = absurd (omega (arith, high))
pairs_half (a ∷ b ∷ more) (suc half) low high = ap suc (pairs_half more half (omega (arith, low)) (omega (arith, high)))

pub first_at : (xs : List ℕ) (k : ℕ) → k < length (firsts xs) → slice_get (firsts xs) k ≡ slice_get xs (k + k)
first_at [] k l = absurd (omega (arith, l))
first_at (a ∷ []) k l = absurd (omega (arith, l))
first_at (a ∷ b ∷ more) zero l = refl
first_at (a ∷ b ∷ more) (suc k) l = first_at more k (omega (arith, l)) ∙ ap (slice_get (a ∷ b ∷ more)) (let z : suc (suc (k + k)) ≡ suc k + suc k = omega arith in z)

pub second_at : (xs : List ℕ) (k : ℕ) → k < length (firsts xs) → slice_get (seconds xs) k ≡ slice_get xs (k + k + 1)
second_at [] k l = absurd (omega (arith, l))
second_at (a ∷ []) k l = absurd (omega (arith, l))
second_at (a ∷ b ∷ more) zero l = refl
second_at (a ∷ b ∷ more) (suc k) l = second_at more k (omega (arith, l)) ∙ ap (slice_get (a ∷ b ∷ more)) (let z : suc (suc (k + k + 1)) ≡ suc k + suc k + 1 = omega arith in z)

pub half_is : (xs : List ℕ) → length (firsts xs) ≡ length xs / 2
half_is xs = pairs_half xs (length xs / 2) (omega arith) (omega arith)

-- the pairs from the last one on
module _ (xs : List ℕ) (index : ℕ) (l : index < length (firsts xs)) where
  at : ℕ
  at = length (firsts xs) - 1 - index

  place_is : at + at ≡ 2 * (length xs / 2 - 1 - index)
  unfolding at
  place_is = omega (arith, half_is xs)

  place_in : 2 * (length xs / 2 - 1 - index) + 1 < length xs
  place_in = omega (arith, half_is xs, l)

  pub formal_at : slice_get (firsts xs) (length (firsts xs) - 1 - index) ≡ Some (slice_index_or xs (2 * (length xs / 2 - 1 - index)) 0)
  unfolding at
  formal_at = first_at xs at (omega (arith, l)) ∙ ap (slice_get xs) place_is ∙ slice_get-get_or xs (2 * (length xs / 2 - 1 - index)) 0 (omega (arith, place_in))

  pub actual_at : slice_get (seconds xs) (length (firsts xs) - 1 - index) ≡ Some (slice_index_or xs (2 * (length xs / 2 - 1 - index) + 1) 0)
  unfolding at
  actual_at = second_at xs at (omega (arith, l)) ∙ ap (λ k. slice_get xs (k + 1)) place_is ∙ slice_get-get_or xs (2 * (length xs / 2 - 1 - index) + 1) 0 place_in
