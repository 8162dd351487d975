-- Decisions over lists: whether two are equal, whether one has an element, and which element is the first of which something holds.
use Rattle.std.proofs.Common.{◌≡◌, ℕ, zero, suc, ◌<◌, ◌≤◌, ◌+◌, ◌⊎◌, inl, inr, List, [], ◌∷◌, length, take, Option, Some, None, refl, subst, arith}
use Rattle.std.specs.Prelude.{Contains, slice_get}
use Rattle.std.proofs.lemmas.Bool.{cases_eq}
use Rattle.std.proofs.lemmas.Option.{slice_get_within}
use Rattle.dom_base.specs.Decided.{Decided}
use Rattle.dom_base.proofs.Decided.{dec_and, dec_any, dec_map, lt_or_ge}
use Rattle.dom_base.proofs.Lists.{head_same, tail_same}
use Rattle.model_calls.specs.First.{IsFirst}
use Rattle.model_calls.specs.Refusals.{IsReported}
use Rattle.model_calls.specs.FirstFaults.{NoneHolds}

pub dec_list : {X : Type 0} → ((x y : X) → Decided (x ≡ y)) → (xs ys : List X) → Decided (xs ≡ ys)
dec_list dec [] [] = inl refl
dec_list dec [] (y ∷ ys) = inr (λ e. cc)
dec_list dec (x ∷ xs) [] = inr (λ e. cc)
dec_list dec (x ∷ xs) (y ∷ ys) =
    dec_map (λ both. let a = both.0 in let b = both.1 in cc) (λ e. (head_same e, tail_same e)) (dec_and (dec x y) (dec_list dec xs ys))

pub dec_contains : {X : Type 0} → ((x y : X) → Decided (x ≡ y)) → (xs : List X) (x : X) → Decided (Contains xs x)
dec_contains dec xs x = dec_map (λ z. subst (Contains xs) z.2 z.1) (λ c. (x, c, refl)) (dec_any (λ y. y ≡ x) (λ y. dec y x) xs)

-- the least number below a bound of which something holds, or that there is none

abbrev pub NoneBelow : (ℕ → Type 0) → ℕ → Type 0
NoneBelow Holds n = (k : ℕ) → k < n → Holds k → ⊥

pub least_or_none : (Holds : ℕ → Type 0) → ((k : ℕ) → Decided (Holds k)) → (n : ℕ)
    → ((k : ℕ) × Holds k × NoneBelow Holds k) ⊎ NoneBelow Holds n
least_or_none Holds dec zero = inr (λ k l h. omega (arith, l))
least_or_none Holds dec (suc n) = elim (least_or_none Holds dec n) [
  | inl found ↦ inl found
  | inr none ↦ elim (dec n) [
    | inl holds ↦ inl (n, holds, none)
    | inr fails ↦ inr (λ k l h. elim (cases_eq k n) [
      | inl e ↦ fails (subst Holds e h)
      | inr apart ↦ none k (omega (arith, l, apart)) h
    ])
  ]
]

-- where it holds of some number, it holds of a least one
pub least : (Holds : ℕ → Type 0) → ((k : ℕ) → Decided (Holds k)) → (n : ℕ) → Holds n
    → (k : ℕ) × Holds k × ((j : ℕ) → Holds j → k ≤ j)
least Holds dec n holds = elim (least_or_none Holds dec (n + 1)) [
  | inl found ↦ (found.0, found.1, λ j h. elim (lt_or_ge j found.0) [ inl less ↦ absurd (found.2 j less h) | inr more ↦ more ])
  | inr none ↦ absurd (none n (omega arith) holds)
]

module _ {Element : Type 0} (Holds : List Element → Element → Type 0) (all : List Element)
    (dec : (before : List Element) (e : Element) → Decided (Holds before e)) where
  abbrev HoldsAt : ℕ → Type 0
  HoldsAt k = (e : Element) × (slice_get all k ≡ Some e) × Holds (take k all) e

  holds_at : (k : ℕ) → Decided (HoldsAt k)
  holds_at k = by (slice_get all k) refl
    where
      by : (found : Option Element) → slice_get all k ≡ found → Decided (HoldsAt k)
      by None none = inr (λ h. let there = h.1 in cc)
      by (Some e) is = dec_map
          (λ h. (e, is, h))
          (λ h. let there = h.1 in let same : h.0 ≡ e = cc in subst (Holds (take k all)) same h.2)
          (dec (take k all) e)

  -- the first element of which it holds, or that there is none
  pub first_or_none : ((e : Element) × IsFirst Holds all e) ⊎ NoneHolds Holds all
  first_or_none = elim (least_or_none HoldsAt holds_at (length all)) [
    | inl found ↦ inl (
      found.1.0,
      record {
        index = found.0;
        there = found.1.1;
        holds = found.1.2;
        none_before = λ k other l there holds. found.2 k l (other, there, holds);
      },
    )
    | inr none ↦ inr (λ k e there holds. none k (slice_get_within all k e there) (e, there, holds))
  ]

  -- its line and its name
  pub reported_or_none : (line_of : Element → ℕ) (name_of : Element → List ℕ)
      → ((line : ℕ) × (name : List ℕ) × IsReported Holds all line_of name_of line name)
      ⊎ ((line : ℕ) (name : List ℕ) → IsReported Holds all line_of name_of line name → ⊥)
  reported_or_none line_of name_of = elim first_or_none [
    | inl found ↦ inl (line_of found.0, name_of found.0, record { element = found.0; first = found.1; line_is = refl; name_is = refl })
    | inr none ↦ inr (λ line name r. none r.first.index r.element r.first.there r.first.holds)
  ]
