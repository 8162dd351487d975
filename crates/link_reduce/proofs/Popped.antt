-- What is kept where parts that are no more left are dropped from the list of a net.
use Rattle.std.specs.Prelude.{Bool, Contains, Some, false, slice_get, true}
use Rattle.std.proofs.Common.{List, [], ap, inl, inr, length, refl, set, subst, sym, ℕ, ◌++◌, ◌<◌, ◌∙◌, ◌∷◌, ◌≡◌}
use Rattle.std.proofs.lemmas.List.{length-set}
use Rattle.dom_base.proofs.Lists.{slice_get-push}
use Rattle.link_reduce.specs.Parts.{listed}
use Rattle.link_reduce.specs.Reductions.{IsListed, IsLive, ReductionData, with_at}
use Rattle.link_reduce.specs.declared.part.Part.{Part}
use Rattle.link_reduce.proofs.LiveLinks.{cons_cases}
use Rattle.link_reduce.proofs.Listing.{dropped_listed, held_listed, no_number}

-- the lists alone have changed, and say as much
pub record IsTaking (net : ℕ) (before now : ReductionData) : Type 0 where
  pub same : now ≡ with_at before now.at
  pub room : length now.at ≡ length before.at
  pub are : (held : List ℕ) → IsListed held net before → IsListed held net now

pub begins_taking : (net : ℕ) (r : ReductionData) → IsTaking net r r
begins_taking net r = record { same = refl; room = refl; are = λ held h. h }

module _ (net : ℕ) (before r r' : ReductionData) (t : IsTaking net before r) (lt : net < length r.at)
    (is : r' ≡ with_at r (set r.at net (listed r'.at net))) where
  pub popped_same : r' ≡ with_at before r'.at
  popped_same =
      let at = set r.at net (listed r'.at net) in
      is ∙ ap (λ s. with_at s at) t.same ∙ ap (with_at before) (sym (ap (λ (s : ReductionData). s.at) is))

  pub popped_room : length r'.at ≡ length before.at
  popped_room = ap (λ (s : ReductionData). length s.at) is ∙ length-set r.at net (listed r'.at net) ∙ t.room

  pub popped_none : listed r.at net ≡ [] → listed r'.at net ≡ [] → IsTaking net before r'
  popped_none old new = record {
    same = popped_same;
    room = popped_room;
    are = λ held h. subst (IsListed held net) (sym is)
        (dropped_listed held net r (t.are held h) lt (listed r'.at net) [] (old ∙ ap (λ l. l ++ []) (sym new)) (λ i p c l. absurd (no_number i c)));
  }

  module _ (i : ℕ) (cut : listed r.at net ≡ listed r'.at net ++ i ∷ []) (b : Bool) (live : slice_get r'.live i ≡ Some b) where
    was : slice_get r.live i ≡ Some b
    was = ap (λ (s : ReductionData). slice_get s.live i) (sym is) ∙ live

    pub popped_dead : b ≡ false → IsTaking net before r'
    popped_dead no_more = record {
      same = popped_same;
      room = popped_room;
      are = λ held h. subst (IsListed held net) (sym is) (dropped_listed held net r (t.are held h) lt (listed r'.at net) (i ∷ []) cut dead);
    }
      where
        dead : (j : ℕ) (p : Part) → Contains (i ∷ []) j → IsLive r j p → ⊥
        dead j p c l = elim (cons_cases i [] j c) [
          | inr z ↦ no_number j z
          | inl z ↦ let e : Some true ≡ Some false = sym l.1 ∙ ap (slice_get r.live) z ∙ was ∙ ap Some no_more in absurd cc
        ]

    pub popped_live : b ≡ true → (held : List ℕ) → IsListed held net before → IsListed (i ∷ held) net r'
    popped_live left held h =
        let k = t.are held h in
        let s = k.sound net (length (listed r'.at net)) i
        (subst (λ l. slice_get l (length (listed r'.at net)) ≡ Some i) (sym cut) (slice_get-push (listed r'.at net) i)) in
        subst (IsListed (i ∷ held) net) (sym is) (held_listed held net r k lt (listed r'.at net) i s.0 (s.1, was ∙ ap Some left) cut)

    -- the part has a number of one
    pub popped_low : (held : List ℕ) → IsListed held net before → (p : Part) × (slice_get r.parts i ≡ Some p)
    popped_low held h =
        let s = (t.are held h).sound net (length (listed r'.at net)) i
        (subst (λ l. slice_get l (length (listed r'.at net)) ≡ Some i) (sym cut) (slice_get-push (listed r'.at net) i)) in
        (s.0, s.1)
