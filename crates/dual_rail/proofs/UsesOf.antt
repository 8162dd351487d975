-- The uses of pairs, counted arm by arm and end by end.
use Rattle.std.proofs.Common.{◌≡◌, refl, sym, ap, subst, ◌∙◌, ℕ, zero, suc, ◌+◌, ◌<◌, cond, List, [], ◌∷◌, length, map, replicate, get_or, sum_by, count_by, arith, zero-add}
use Rattle.std.specs.List.{range_with_len}
use Rattle.std.proofs.lemmas.List.{ext_get_or}
use Rattle.std.proofs.lemmas.List.FromFn.{get_or-map-range_with_len, length-map-range_with_len}
use Rattle.std.proofs.lemmas.List.Sums.{sum_by-cons}
use Rattle.dual_rail.specs.Forests.{arms_of, is_end_from, is_pair_arm}
use Rattle.dual_rail.specs.Uses.{named_by}
use Rattle.dual_rail.specs.declared.forest.Arm.{Arm}
use Rattle.dual_rail.specs.declared.forest.End.{End}
use Rattle.dual_rail.specs.declared.forest.Pair.{Pair}
use Rattle.dual_rail.specs.declared.forest.Pair.TheVariants.{And, Or}

two_arms : (p : ℕ) (a b : Arm) → cond (is_pair_arm p a) 1 0 + cond (is_pair_arm p b) 1 0 ≡ count_by (is_pair_arm p) (a ∷ b ∷ [])
two_arms p a b =
    let f : Arm → ℕ = λ x. cond (is_pair_arm p x) 1 0 in
    let first = sum_by-cons f a (b ∷ []) in
    let second = sum_by-cons f b [] in
    omega (arith, first, second)

named_is : (p : ℕ) (x : Pair) → named_by p x ≡ count_by (is_pair_arm p) (arms_of x)
named_is p (And a b) = two_arms p a b
named_is p (Or a b) = two_arms p a b

pub zeros_at : (n p : ℕ) → get_or {A = ℕ} (replicate n 0) p 0 ≡ 0
zeros_at zero p = refl
zeros_at (suc n) zero = refl
zeros_at (suc n) (suc p) = zeros_at n p

zeros_count : (n : ℕ) → length (replicate {A = ℕ} n 0) ≡ n
zeros_count zero = refl
zeros_count (suc n) = ap suc (zeros_count n)

pub all_uses : (n : ℕ) (zeros mid seen end : List ℕ) (pairs : List Pair) (ends : List End) → zeros ≡ replicate {A = ℕ} n 0 → seen ≡ mid → length mid ≡ length zeros → length end ≡ length seen
    → ((p : ℕ) → p < length zeros → get_or mid p 0 ≡ get_or zeros p 0 + sum_by (named_by p) pairs)
    → ((p : ℕ) → p < length seen → get_or end p 0 ≡ get_or seen p 0 + count_by (is_end_from p) ends)
    → end ≡ map (λ p. sum_by (λ pair. count_by (is_pair_arm p) (arms_of pair)) pairs + count_by (is_end_from p) ends) (range_with_len 0 n)
all_uses n zeros mid seen end pairs ends none same mid_long end_long by_pairs by_ends =
    ext_get_or 0 end (map uses (range_with_len 0 n)) (count ∙ sym (length-map-range_with_len uses 0 n)) (λ p lt. at p lt ∙ sym (get_or-map-range_with_len uses 0 n p p 0 (subst (λ k. p < k) count lt) (zero-add p)))
  where
    uses : ℕ → ℕ
    uses p = sum_by (λ pair. count_by (is_pair_arm p) (arms_of pair)) pairs + count_by (is_end_from p) ends

    zeros_long : length zeros ≡ n
    zeros_long = ap length none ∙ zeros_count n

    seen_long : length seen ≡ n
    seen_long = ap length same ∙ mid_long ∙ zeros_long

    count : length end ≡ n
    count = end_long ∙ seen_long

    at : (p : ℕ) → p < length end → get_or end p 0 ≡ uses p
    at p lt =
        by_ends p (subst (λ k. p < k) end_long lt)
        ∙ ap (λ k. k + count_by (is_end_from p) ends)
        (ap (λ xs. get_or xs p 0) same ∙ by_pairs p (subst (λ k. p < k) (count ∙ sym zeros_long) lt)
        ∙ ap (λ k. k + sum_by (named_by p) pairs) (ap (λ xs. get_or xs p 0) none ∙ zeros_at n p) ∙ zero-add (sum_by (named_by p) pairs)
        ∙ ap (λ (f : Pair → ℕ). sum_by f pairs) (λ i x. named_is p x i))
