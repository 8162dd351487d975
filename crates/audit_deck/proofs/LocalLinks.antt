-- Devices as links by the numbers of nets, one after another; and places but for one.
use Rattle.std.specs.Prelude.{Some, slice_get, ◌≢◌, ◌⊎◌}
use Rattle.std.proofs.Common.{List, [], ap, arith, get_or, inl, inr, length, length-append, subst, sym, ℕ, ◌++◌, ◌+◌, ◌<◌, ◌∙◌, ◌∷◌, ◌≡◌}
use Rattle.std.proofs.Common.{◌≤◌}
use Rattle.std.proofs.lemmas.Option.{slice_get-get_or, slice_get_within}
use Rattle.dom_base.proofs.Decided.{lt_or_ge}
use Rattle.dom_base.proofs.Lists.{slice_get-append, slice_get-push, slice_get-push_cases}
use Rattle.deck.specs.declared.device.Device.{Device}
use Rattle.link_reduce.specs.declared.part.Ends.{Ends}
use Rattle.audit_deck.specs.CellTrees.{AreLocal, IsLocal}
use Rattle.link_reduce.specs.Parts.{IsOnce}
use Rattle.audit_deck.specs.Indexes.{AreThose}
use Rattle.audit_deck.specs.Numberings.{IsMet}

module _ (ds : List Device) (nets places : List ℕ) (links : List Ends) (h : AreLocal ds nets places links) (p : ℕ) (e : Ends) (is : IsLocal ds nets p e) where
  pub local_more : AreLocal ds nets (places ++ p ∷ []) (links ++ e ∷ [])
  local_more = record {
    count = omega (arith, h.count, length-append links (e ∷ []), length-append places (p ∷ []));
    each = λ i q g at there. by i q g (slice_get-push_cases places p i q at) (slice_get-push_cases links e i g there);
  }
    where
      by : (i q : ℕ) (g : Ends) → (slice_get places i ≡ Some q) ⊎ ((i ≡ length places) × (p ≡ q))
          → (slice_get links i ≡ Some g) ⊎ ((i ≡ length links) × (e ≡ g)) → IsLocal ds nets q g
      by i q g (inl y) (inl z) = h.each i q g y z
      by i q g (inr y) (inr z) = subst (λ x. IsLocal ds nets x g) y.1 (subst (IsLocal ds nets p) z.1 is)
      by i q g (inl y) (inr z) = let low = slice_get_within places i q y in absurd (omega (arith, low, z.0, h.count))
      by i q g (inr y) (inl z) = let low = slice_get_within links i g z in absurd (omega (arith, low, y.0, h.count))

-- the ends of a link are numbers of nets
pub local_low : (ds : List Device) (nets places : List ℕ) (links : List Ends) → AreLocal ds nets places links → (k : ℕ) (d : Ends)
    → k < length links
    → ((get_or links k d).from < length nets) × ((get_or links k d).to < length nets)
local_low ds nets places links h k d lt =
    let e : Ends = get_or links k d in
    let p : ℕ = get_or places k 0 in
    let l = h.each k p e (slice_get-get_or places k 0 (omega (arith, lt, h.count))) (slice_get-get_or links k d lt) in
    (slice_get_within nets e.from l.device.drain l.from, slice_get_within nets e.to l.device.source l.to)

-- the numbers of a list before a place, but for one
abbrev pub OtherBefore : List ℕ → ℕ → ℕ → ℕ → Type 0
OtherBefore places one i p = ((j : ℕ) × (j < i) × (slice_get places j ≡ Some p)) × (p ≢ one)

module _ (places : List ℕ) (once : IsOnce places) (one i q : ℕ) (at : slice_get places i ≡ Some q) (rest : List ℕ) (h : AreThose (OtherBefore places one i) rest) where
  before_or_here : (j p : ℕ) → j < i + 1 → slice_get places j ≡ Some p → (j < i) ⊎ (p ≡ q)
  before_or_here j p lt there = elim (lt_or_ge j i) [
    | inl y ↦ inl y
    | inr y ↦ let e : j ≡ i = omega (arith, y, lt) in let z : Some p ≡ Some q = sym there ∙ ap (slice_get places) e ∙ at in inr cc
  ]

  pub one_skipped : q ≡ one → AreThose (OtherBefore places one (i + 1)) rest
  one_skipped same = record {
    sound = λ k p there. let y = h.sound k p there in ((y.0.0, omega (arith, y.0.1), y.0.2), y.1);
    full = λ p y. elim (before_or_here y.0.0 p y.0.1 y.0.2) [
      | inl lt ↦ h.full p ((y.0.0, lt, y.0.2), y.1)
      | inr e ↦ absurd (y.1 (e ∙ same))
    ];
    once = h.once;
  }

  not_yet : (k : ℕ) → slice_get rest k ≡ Some q → ⊥
  not_yet k there =
      let y = h.sound k q there in
      let e = once y.0.0 i q y.0.2 at in
      omega (arith, e, y.0.1)

  pub other_added : q ≢ one → AreThose (OtherBefore places one (i + 1)) (rest ++ q ∷ [])
  other_added ne = record {
    sound = λ k p there. elim (slice_get-push_cases rest q k p there) [
      | inl z ↦ let y = h.sound k p z in ((y.0.0, omega (arith, y.0.1), y.0.2), y.1)
      | inr z ↦ ((i, omega arith, at ∙ ap Some z.1), (λ e. ne (z.1 ∙ e)))
    ];
    full = λ p y. elim (before_or_here y.0.0 p y.0.1 y.0.2) [
      | inl lt ↦ let z = h.full p ((y.0.0, lt, y.0.2), y.1) in (z.0, slice_get-append rest (q ∷ []) z.0 p z.1)
      | inr e ↦ (length rest, slice_get-push rest q ∙ ap Some (sym e))
    ];
    once = λ j k p there here. only j k p (slice_get-push_cases rest q j p there) (slice_get-push_cases rest q k p here);
  }
    where
      only : (j k p : ℕ) → (slice_get rest j ≡ Some p) ⊎ ((j ≡ length rest) × (q ≡ p))
          → (slice_get rest k ≡ Some p) ⊎ ((k ≡ length rest) × (q ≡ p)) → j ≡ k
      only j k p (inl y) (inl z) = h.once j k p y z
      only j k p (inr y) (inr z) = y.0 ∙ sym z.0
      only j k p (inl y) (inr z) = absurd (not_yet j (y ∙ ap Some (sym z.1)))
      only j k p (inr y) (inl z) = absurd (not_yet k (z ∙ ap Some (sym y.1)))

pub all_others : (places : List ℕ) (one i : ℕ) (rest : List ℕ) → length places ≤ i → AreThose (OtherBefore places one i) rest
    → AreThose (λ p. IsMet places p × (p ≢ one)) rest
all_others places one i rest done h = record {
  sound = λ k p there. let y = h.sound k p there in ((y.0.0, y.0.2), y.1);
  full = λ p y. h.full p ((y.0.0, (let z = slice_get_within places y.0.0 p y.0.1 in omega (arith, z, done)), y.0.1), y.1);
  once = h.once;
}
