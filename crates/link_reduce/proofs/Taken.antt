-- What is kept where parts are taken from the list of a net and put back.
use Rattle.std.specs.Prelude.{Contains, ◌⊎◌}
use Rattle.std.proofs.Common.{List, [], ap, arith, inl, inr, length, subst, sym, ℕ, ◌<◌, ◌∙◌, ◌∷◌, ◌≡◌}
use Rattle.dom_base.proofs.Lists.{Contains-first, Contains-later}
use Rattle.link_reduce.specs.Reductions.{EachNew, IsHolding, IsKept, IsListed, IsSettled, LiveLink, ReductionData, Settles, remaining, with_at, with_listed}
use Rattle.link_reduce.specs.declared.part.Ends.{Ends}
use Rattle.link_reduce.proofs.LiveLinks.{cons_cases}
use Rattle.link_reduce.proofs.Steps.{put_all, put_holding, room_more}

kept_at : (ends : List Ends) (a b : ℕ) (r : ReductionData) (at : List (List ℕ)) → length at ≡ length r.at → IsKept ends a b r → IsKept ends a b (with_at r at)
kept_at ends a b r at room k = record {
  long = k.long;
  inside = λ j p z. let w = k.inside j p z in (omega (arith, w.0, room), omega (arith, w.1, room));
  keeps = k.keeps;
  trees = k.trees;
  tree_of = k.tree_of;
  apart = k.apart;
  all = k.all;
  wide = k.wide;
  high = k.high;
  few = k.few;
}

-- a state that differs in the lists alone holds what its lists say
module _ (a b : ℕ) (held more : List ℕ) (net : ℕ) (r r' : ReductionData) (same : r' ≡ with_at r r'.at) (room : length r'.at ≡ length r.at)
    (are : IsListed held net r → IsListed more net r') where
  pub took_holding : (ends : List Ends) → IsHolding ends a b held net r → IsHolding ends a b more net r'
  took_holding ends h =
      let kept : IsKept ends a b r' = subst (IsKept ends a b) (sym same) (kept_at ends a b r r'.at room h.kept) in
      let settled : (n : ℕ) → (n ≡ net) ⊎ (Contains r'.work n ⊎ IsSettled (LiveLink r') a b n) =
      subst (λ (s : ReductionData). (n : ℕ) → (n ≡ net) ⊎ (Contains s.work n ⊎ IsSettled (LiveLink s) a b n)) (sym same) h.settled in
      let inside : (n : ℕ) → Contains r'.work n → n < length r'.at =
      subst (λ (s : ReductionData). (n : ℕ) → Contains s.work n → n < length s.at) (sym same) (λ n c. omega (arith, h.work_inside n c, room)) in
      record { kept = kept; are_listed = are h.are_listed; settled = settled; work_inside = inside }

  took_remaining : remaining r' ≡ remaining r
  took_remaining = ap remaining same

  pub settles_from : (after : ReductionData) → Settles a b more net r' after → Settles a b held net r after
  settles_from after s = record {
    sound = λ ends h. s.sound ends (took_holding ends h);
    less = omega (arith, s.less, took_remaining);
    room = s.room ∙ room;
  }

-- the same parts are held in another order
pub same_held : (held more : List ℕ) (net : ℕ) (r : ReductionData) → ((i : ℕ) → Contains held i → Contains more i)
    → ((i : ℕ) → Contains more i → Contains held i) → EachNew more → IsListed held net r → IsListed more net r
same_held held more net r to from once h = record {
  sound = h.sound;
  full = λ n i p l e. elim (h.full n i p l e) [ inl y ↦ inl y | inr y ↦ inr (y.0, to i y.1) ];
  once = h.once;
  apart = λ j i c y. h.apart j i (from i c) y;
  held_once = once;
  held_live = λ i c. h.held_live i (from i c);
}

-- two or three numbers in another order
pub swap_two : (i j : ℕ) (rest : List ℕ) (k : ℕ) → Contains (i ∷ j ∷ rest) k → Contains (j ∷ i ∷ rest) k
swap_two i j rest k c = elim (cons_cases i (j ∷ rest) k c) [
  | inl z ↦ subst (Contains (j ∷ i ∷ rest)) (sym z) (Contains-later j (i ∷ rest) i (Contains-first i rest))
  | inr y ↦ elim (cons_cases j rest k y) [
    | inl z ↦ subst (Contains (j ∷ i ∷ rest)) (sym z) (Contains-first j (i ∷ rest))
    | inr z ↦ Contains-later j (i ∷ rest) k (Contains-later i rest k z)
  ]
]

pub swap_first : (i j : ℕ) (rest : List ℕ) (net : ℕ) (r : ReductionData) → IsListed (i ∷ j ∷ rest) net r → IsListed (j ∷ i ∷ rest) net r
swap_first i j rest net r h =
    let o = h.held_once in
    same_held (i ∷ j ∷ rest) (j ∷ i ∷ rest) net r (swap_two i j rest) (swap_two j i rest) (
      (λ c. elim (cons_cases i rest j c) [ inl z ↦ o.0 (subst (Contains (j ∷ rest)) z (Contains-first j rest)) | inr z ↦ o.1.0 z ]),
      ((λ c. o.0 (Contains-later j rest i c)), o.1.1),
    ) h

later_two : (i j k : ℕ) (rest : List ℕ) (n : ℕ) → Contains (i ∷ j ∷ k ∷ rest) n → Contains (i ∷ k ∷ j ∷ rest) n
later_two i j k rest n c = elim (cons_cases i (j ∷ k ∷ rest) n c) [
  | inl z ↦ subst (Contains (i ∷ k ∷ j ∷ rest)) (sym z) (Contains-first i (k ∷ j ∷ rest))
  | inr z ↦ Contains-later i (k ∷ j ∷ rest) n (swap_two j k rest n z)
]

pub swap_later : (i j k : ℕ) (rest : List ℕ) (net : ℕ) (r : ReductionData) → IsListed (i ∷ j ∷ k ∷ rest) net r → IsListed (i ∷ k ∷ j ∷ rest) net r
swap_later i j k rest net r h =
    let o = h.held_once in
    same_held (i ∷ j ∷ k ∷ rest) (i ∷ k ∷ j ∷ rest) net r (later_two i j k rest) (later_two i k j rest) (
      (λ c. o.0 (swap_two k j rest i c)),
      (
        (λ c. elim (cons_cases j rest k c) [ inl z ↦ o.1.0 (subst (Contains (k ∷ rest)) z (Contains-first k rest)) | inr z ↦ o.1.1.0 z ]),
        ((λ c. o.1.0 (Contains-later k rest j c)), o.1.1.1),
      ),
    ) h

pub swapped : (ends : List Ends) (a b : ℕ) (held more : List ℕ) (net : ℕ) (r : ReductionData) → (IsListed held net r → IsListed more net r)
    → IsHolding ends a b held net r → IsHolding ends a b more net r
swapped ends a b held more net r to h = record { kept = h.kept; are_listed = to h.are_listed; settled = h.settled; work_inside = h.work_inside }

-- the last part that is held is put back
pub put_last : (a b net i : ℕ) (r : ReductionData) → net < length r.at
    → ((ends : List Ends) → IsHolding ends a b (i ∷ []) net r → IsSettled (LiveLink r) a b net) → Settles a b (i ∷ []) net r (with_listed r net i)
put_last a b net i r lt settled = record {
  sound = λ ends h. put_all ends a b net (with_listed r net i) (put_holding ends a b [] net i r h lt) (settled ends h);
  less = omega arith;
  room = room_more r.at net i;
}

pub put_more : (a b net i : ℕ) (held : List ℕ) (r after : ReductionData) → net < length r.at
    → Settles a b held net (with_listed r net i) after → Settles a b (i ∷ held) net r after
put_more a b net i held r after lt s = record {
  sound = λ ends h. s.sound ends (put_holding ends a b held net i r h lt);
  less = s.less;
  room = s.room ∙ room_more r.at net i;
}
