-- What becomes of a net that is looked at.
use Rattle.std.specs.Prelude.{Contains, Some, slice_get, ◌≢◌, ◌⊎◌}
use Rattle.std.proofs.Common.{List, [], arith, inl, inr, length, refl, subst, sym, ℕ, ◌<◌, ◌∙◌, ◌∷◌, ◌≡◌}
use Rattle.dom_base.proofs.Lists.{Contains-first, Contains-later}
use Rattle.link_reduce.specs.Parts.{PartEndsAt, listed}
use Rattle.link_reduce.specs.Reductions.{Holds, IsListed, LeadsTo, ReductionData, Settles, with_at, with_listed}
use Rattle.link_reduce.specs.declared.part.Part.{Part}
use Rattle.link_reduce.proofs.LiveLinks.{cons_cases}
use Rattle.link_reduce.proofs.Listing.{no_number}
use Rattle.link_reduce.proofs.Steps.{leads_to_three, leads_to_two, one_at_most, put_all, put_holding, room_more}
use Rattle.link_reduce.proofs.Taken.{settles_from, swap_first, swap_later, swapped, took_holding}

-- a state that differs in the lists alone holds as much
pub still_holds : (a b : ℕ) (held more : List ℕ) (net : ℕ) (r r' : ReductionData) → r' ≡ with_at r r'.at → length r'.at ≡ length r.at
    → (IsListed held net r → IsListed more net r') → Holds a b held net r → Holds a b more net r'
still_holds a b held more net r r' same room are (ends, few, h) = (ends, few, took_holding a b held more net r r' same room are ends h)

pub leads_still : (r r' : ReductionData) (i net x : ℕ) → r' ≡ with_at r r'.at → LeadsTo r i net x → LeadsTo r' i net x
leads_still r r' i net x same l = subst (λ s. LeadsTo s i net x) (sym same) l

-- a net without a part, or with one
pub none_settles : (a b net : ℕ) (r r' : ReductionData) → r' ≡ with_at r r'.at → length r'.at ≡ length r.at
    → (IsListed [] net r → IsListed [] net r') → listed r'.at net ≡ [] → Settles a b [] net r r'
none_settles a b net r r' same room are empty = settles_from a b [] [] net r r' same room are r' (record {
  sound = λ ends h. put_all ends a b net r' h (inl (one_at_most [] net r' h.are_listed empty 0 (λ j c. absurd (no_number j c))));
  less = omega arith;
  room = refl;
})

one_number : (i j : ℕ) → Contains (i ∷ []) j → j ≡ i
one_number i j c = elim (cons_cases i [] j c) [ inl z ↦ z | inr z ↦ absurd (no_number j z) ]

pub one_settles : (a b net i : ℕ) (r r' after : ReductionData) → r' ≡ with_at r r'.at → length r'.at ≡ length r.at
    → (IsListed (i ∷ []) net r → IsListed (i ∷ []) net r') → listed r'.at net ≡ [] → net < length r'.at → after ≡ with_listed r' net i
    → Settles a b (i ∷ []) net r after
one_settles a b net i r r' after same room are empty lt is = settles_from a b (i ∷ []) (i ∷ []) net r r' same room are after
    (subst (Settles a b (i ∷ []) net r') (sym is) (record {
      sound = λ ends h. put_all ends a b net (with_listed r' net i) (put_holding ends a b [] net i r' h lt)
          (inl (one_at_most (i ∷ []) net r' h.are_listed empty i (one_number i)));
      less = omega arith;
      room = room_more r'.at net i;
    }))

-- two parts that lead to two nets are put back at an end of the network, three that lead to three at any net
pub two_settle : (a b net e f u v : ℕ) (r : ReductionData) → net < length r.at → LeadsTo r e net u → LeadsTo r f net v → u ≢ v
    → (net ≡ a) ⊎ (net ≡ b) → Settles a b (f ∷ e ∷ []) net r (with_listed (with_listed r net f) net e)
two_settle a b net e f u v r lt first second other which =
    let one = with_listed r net f in
    let more : net < length one.at = omega (arith, lt, room_more r.at net f) in
    let held = f ∷ e ∷ [] in
    record {
      sound = λ ends h.
          put_all ends a b net (with_listed one net e) (put_holding ends a b [] net e one (put_holding ends a b (e ∷ []) net f r h lt) more)
          (inr (inl (which, leads_to_two held net r h.are_listed e f u v (Contains-later f (e ∷ []) e (Contains-first e [])) (Contains-first f (e ∷ [])) first second other)));
      less = omega arith;
      room = room_more one.at net e ∙ room_more r.at net f;
    }

pub three_settle : (a b net e f g u v w : ℕ) (r : ReductionData) → net < length r.at → LeadsTo r e net u → LeadsTo r f net v → LeadsTo r g net w
    → u ≢ v → w ≢ u → w ≢ v → Settles a b (g ∷ f ∷ e ∷ []) net r (with_listed (with_listed (with_listed r net g) net f) net e)
three_settle a b net e f g u v w r lt first second third uv wu wv =
    let one = with_listed r net g in
    let two = with_listed one net f in
    let more : net < length one.at = omega (arith, lt, room_more r.at net g) in
    let most : net < length two.at = omega (arith, more, room_more one.at net f) in
    let held = g ∷ f ∷ e ∷ [] in
    record {
      sound = λ ends h.
          put_all ends a b net (with_listed two net e)
          (put_holding ends a b [] net e two (put_holding ends a b (e ∷ []) net f one (put_holding ends a b (f ∷ e ∷ []) net g r h lt) more) most)
          (inr (inr (leads_to_three held net r h.are_listed e f g u v w
          (Contains-later g (f ∷ e ∷ []) e (Contains-later f (e ∷ []) e (Contains-first e []))) (Contains-later g (f ∷ e ∷ []) f (Contains-first f (e ∷ [])))
          (Contains-first g (f ∷ e ∷ [])) first second third uv wu wv)));
      less = omega arith;
      room = room_more two.at net e ∙ room_more one.at net f ∙ room_more r.at net g;
    }

-- of three parts the second, or the first, is put back
pub put_second : (a b net e f g : ℕ) (r : ReductionData) → net < length r.at → Holds a b (g ∷ f ∷ e ∷ []) net r → Holds a b (g ∷ e ∷ []) net (with_listed r net f)
put_second a b net e f g r lt (ends, few, h) =
    (ends, few, put_holding ends a b (g ∷ e ∷ []) net f r (swapped ends a b (g ∷ f ∷ e ∷ []) (f ∷ g ∷ e ∷ []) net r (swap_first g f (e ∷ []) net r) h) lt)

pub second_settles : (a b net e f g : ℕ) (r after : ReductionData) → net < length r.at → Settles a b (g ∷ e ∷ []) net (with_listed r net f) after
    → Settles a b (g ∷ f ∷ e ∷ []) net r after
second_settles a b net e f g r after lt s = record {
  sound = λ ends h. s.sound ends
      (put_holding ends a b (g ∷ e ∷ []) net f r (swapped ends a b (g ∷ f ∷ e ∷ []) (f ∷ g ∷ e ∷ []) net r (swap_first g f (e ∷ []) net r) h) lt);
  less = s.less;
  room = s.room ∙ room_more r.at net f;
}

first_last : (e f g net : ℕ) (r : ReductionData) → IsListed (g ∷ f ∷ e ∷ []) net r → IsListed (e ∷ g ∷ f ∷ []) net r
first_last e f g net r h = swap_first g e (f ∷ []) net r (swap_later g f e [] net r h)

pub put_first : (a b net e f g : ℕ) (r : ReductionData) → net < length r.at → Holds a b (g ∷ f ∷ e ∷ []) net r → Holds a b (g ∷ f ∷ []) net (with_listed r net e)
put_first a b net e f g r lt (ends, few, h) =
    (ends, few, put_holding ends a b (g ∷ f ∷ []) net e r (swapped ends a b (g ∷ f ∷ e ∷ []) (e ∷ g ∷ f ∷ []) net r (first_last e f g net r) h) lt)

pub first_settles : (a b net e f g : ℕ) (r after : ReductionData) → net < length r.at → Settles a b (g ∷ f ∷ []) net (with_listed r net e) after
    → Settles a b (g ∷ f ∷ e ∷ []) net r after
first_settles a b net e f g r after lt s = record {
  sound = λ ends h. s.sound ends
      (put_holding ends a b (g ∷ f ∷ []) net e r (swapped ends a b (g ∷ f ∷ e ∷ []) (e ∷ g ∷ f ∷ []) net r (first_last e f g net r) h) lt);
  less = s.less;
  room = s.room ∙ room_more r.at net e;
}

-- what is held is a part that ends at the net
pub held_part : (a b : ℕ) (held : List ℕ) (net : ℕ) (r : ReductionData) → Holds a b held net r → (i : ℕ) → Contains held i
    → (p : Part) × (slice_get r.parts i ≡ Some p) × PartEndsAt p net
held_part a b held net r (ends, few, h) i c = let y = h.are_listed.held_live i c in (y.0, y.1.0, y.2)
