-- Lists of the numbers with a property, by net, where one number more is looked at.
use Rattle.std.specs.Prelude.{Some, slice_get, ◌≢◌, ◌⊎◌}
use Rattle.std.proofs.Common.{List, [], ap, arith, inl, inr, length, refl, replicate, subst, suc, sym, zero, ℕ, ◌++◌, ◌+◌, ◌<◌, ◌∙◌, ◌∷◌}
use Rattle.std.proofs.Common.{◌≡◌}
use Rattle.dom_base.specs.Decided.{Decided}
use Rattle.dom_base.proofs.Decided.{dec_nat, dec_or}
use Rattle.dom_base.proofs.Lists.{slice_get-append, slice_get-push, slice_get-push_cases}
use Rattle.deck.specs.Nets.{IsInRange}
use Rattle.deck.specs.declared.device.Device.{Device}
use Rattle.link_reduce.specs.Parts.{listed, with_number}
use Rattle.link_reduce.proofs.Begun.{at_none}
use Rattle.link_reduce.proofs.Listing.{more_other, more_same}
use Rattle.link_reduce.proofs.Steps.{room_more}
use Rattle.audit_deck.specs.Indexes.{AddsWhere, AreIndexed, AreListed, AreThose, EndingAt, GatedBy, HasEnd}

abbrev Below : (ℕ → Type 0) → ℕ → ℕ → Type 0
Below P bound p = (p < bound) × P p

module _ (P : ℕ → Type 0) (bound : ℕ) (numbers : List ℕ) (h : AreThose (Below P bound) numbers) where
  past : (j : ℕ) → slice_get numbers j ≡ Some bound → ⊥
  past j at = let y = (h.sound j bound at).0 in absurd (omega (arith, y))

  -- the next number has the property
  one_more : P bound → AreThose (Below P (bound + 1)) (numbers ++ bound ∷ [])
  one_more has = record {
    sound = λ j p at. elim (slice_get-push_cases numbers bound j p at) [
      | inl y ↦ let z = h.sound j p y in (omega (arith, z.0), z.1)
      | inr y ↦ (omega (arith, y.1), subst P y.1 has)
    ];
    full = λ p low. elim (dec_nat p bound) [
      | inl z ↦ (length numbers, slice_get-push numbers bound ∙ ap Some (sym z))
      | inr ne ↦ let y = h.full p (omega (arith, low.0, ne), low.1) in (y.0, slice_get-append numbers (bound ∷ []) y.0 p y.1)
    ];
    once = λ j k p at there. only j k p (slice_get-push_cases numbers bound j p at) (slice_get-push_cases numbers bound k p there);
  }
    where
      only : (j k p : ℕ) → (slice_get numbers j ≡ Some p) ⊎ ((j ≡ length numbers) × (bound ≡ p))
          → (slice_get numbers k ≡ Some p) ⊎ ((k ≡ length numbers) × (bound ≡ p)) → j ≡ k
      only j k p (inl y) (inl z) = h.once j k p y z
      only j k p (inr y) (inr z) = y.0 ∙ sym z.0
      only j k p (inl y) (inr z) = absurd (past j (y ∙ ap Some (sym z.1)))
      only j k p (inr y) (inl z) = absurd (past k (z ∙ ap Some (sym y.1)))

  -- it has not
  none_more : (P bound → ⊥) → AreThose (Below P (bound + 1)) numbers
  none_more hasnt = record {
    sound = λ j p at. let z = h.sound j p at in (omega (arith, z.0), z.1);
    full = λ p low. elim (dec_nat p bound) [
      | inl z ↦ absurd (hasnt (subst P z low.1))
      | inr ne ↦ h.full p (omega (arith, low.0, ne), low.1)
    ];
    once = h.once;
  }

-- where all numbers with the property were looked at, the list has those
pub all_those : (P : ℕ → Type 0) (bound : ℕ) (numbers : List ℕ) → ((p : ℕ) → P p → p < bound) → AreThose (Below P bound) numbers
    → AreThose P numbers
all_those P bound numbers low h = record {
  sound = λ j p at. (h.sound j p at).1;
  full = λ p has. h.full p (low p has, has);
  once = h.once;
}

-- no number was looked at
length_none : (nets : ℕ) → length (replicate {A = List ℕ} nets []) ≡ nets
length_none zero = refl
length_none (suc nets) = omega (arith, length_none nets)

pub listed_none : (P : ℕ → ℕ → Type 0) (nets : ℕ) → AreListed P nets 0 (replicate nets [])
listed_none P nets = record {
  count = length_none nets;
  each = λ n lt. record {
    sound = λ j p at. absurd (at_none nets n j p at);
    full = λ p low. absurd (omega (arith, low.0));
    once = λ j k p at there. absurd (at_none nets n j p at);
  };
}

-- one number more, put at the end of the lists whose property it has
pub listed_more : (P : ℕ → ℕ → Type 0) (nets bound : ℕ) (lists lists' : List (List ℕ)) → ((n : ℕ) → Decided (P n bound))
    → AreListed P nets bound lists → AddsWhere (λ n. P n bound) bound lists lists' → AreListed P nets (bound + 1) lists'
listed_more P nets bound lists lists' dec h adds = record {
  count = adds.room ∙ h.count;
  each = λ n lt. elim (dec n) [
    | inl y ↦ subst (AreThose (Below (P n) (bound + 1))) (sym (adds.here n y)) (one_more (P n) bound (listed lists n) (h.each n lt) y)
    | inr y ↦ subst (AreThose (Below (P n) (bound + 1))) (sym (adds.away n y)) (none_more (P n) bound (listed lists n) (h.each n lt) y)
  ];
}

-- a number is put into one list, or into two
pub adds_one : (lists : List (List ℕ)) (n place : ℕ) → n < length lists → AddsWhere (λ m. n ≡ m) place lists (with_number lists n place)
adds_one lists n place lt = record {
  room = room_more lists n place;
  here = λ m e. subst (λ x. listed (with_number lists n place) x ≡ listed lists x ++ place ∷ []) e (more_same lists n place lt);
  away = λ m ne. more_other lists n place lt m (λ e. ne (sym e));
}

module _ (lists : List (List ℕ)) (d : Device) (place : ℕ) (drain : d.drain < length lists) (source : d.source < length lists) where
  pub adds_ends_once : d.drain ≡ d.source → AddsWhere (HasEnd d) place lists (with_number lists d.drain place)
  adds_ends_once same =
      let one = adds_one lists d.drain place drain in
      record {
        room = one.room;
        here = λ m e. one.here m (elim e [ inl y ↦ y | inr y ↦ same ∙ y ]);
        away = λ m ne. one.away m (λ e. ne (inl e));
      }

  pub adds_ends : d.drain ≢ d.source → AddsWhere (HasEnd d) place lists (with_number (with_number lists d.drain place) d.source place)
  adds_ends differ =
      let one = adds_one lists d.drain place drain in
      let two = adds_one (with_number lists d.drain place) d.source place (omega (arith, source, one.room)) in
      record {
        room = two.room ∙ one.room;
        here = λ m e. elim e [
          | inl y ↦ two.away m (λ z. differ (y ∙ sym z)) ∙ one.here m y
          | inr y ↦ two.here m y ∙ ap (λ l. l ++ place ∷ []) (one.away m (λ z. differ (z ∙ sym y)))
        ];
        away = λ m ne. two.away m (λ e. ne (inr e)) ∙ one.away m (λ e. ne (inl e));
      }

-- a device is put into the lists of its ends, or of its gate
module _ (ds : List Device) (nets place : ℕ) (d : Device) (there : slice_get ds place ≡ Some d) (lists lists' : List (List ℕ)) where
  here_is : (e : Device) → slice_get ds place ≡ Some e → d ≡ e
  here_is e at = cc

  pub ends_more : AreListed (EndingAt ds) nets place lists → AddsWhere (HasEnd d) place lists lists'
      → AreListed (EndingAt ds) nets (place + 1) lists'
  ends_more h adds = listed_more (EndingAt ds) nets place lists lists'
      (λ n. elim (dec_or (dec_nat d.drain n) (dec_nat d.source n)) [
        | inl y ↦ inl (d, there, y)
        | inr y ↦ inr (λ z. y (subst (λ e. HasEnd e n) (sym (here_is z.0 z.1)) z.2))
      ]) h (record {
        room = adds.room;
        here = λ n e. adds.here n (subst (λ f. HasEnd f n) (sym (here_is e.0 e.1)) e.2);
        away = λ n ne. adds.away n (λ e. ne (d, there, e));
      })

  pub gates_more : AreListed (GatedBy ds) nets place lists → AddsWhere (λ n. d.gate ≡ n) place lists lists'
      → AreListed (GatedBy ds) nets (place + 1) lists'
  gates_more h adds = listed_more (GatedBy ds) nets place lists lists'
      (λ n. elim (dec_nat d.gate n) [
        | inl y ↦ inl (d, there, y)
        | inr y ↦ inr (λ z. y (ap (λ (f : Device). f.gate) (here_is z.0 z.1) ∙ z.2))
      ]) h (record {
        room = adds.room;
        here = λ n e. adds.here n (ap (λ (f : Device). f.gate) (here_is e.0 e.1) ∙ e.2);
        away = λ n ne. adds.away n (λ e. ne (d, there, e));
      })

-- all devices were put into the lists
pub are_indexed : (ds : List Device) (nets place : ℕ) (ending gating : List (List ℕ)) → AreListed (EndingAt ds) nets place ending
    → AreListed (GatedBy ds) nets place gating
    → place ≡ length ds → ((p : ℕ) (d : Device) → slice_get ds p ≡ Some d → IsInRange nets d) → AreIndexed ds ending gating
are_indexed ds nets place ending gating ends gates all in_range =
    let same : nets ≡ length ending = sym ends.count in
    record {
      in_range = λ p d at. subst (λ n. IsInRange n d) same (in_range p d at);
      ends = subst (λ n. AreListed (EndingAt ds) n (length ds) ending) same (subst (λ p. AreListed (EndingAt ds) nets p ending) all ends);
      gates = subst (λ n. AreListed (GatedBy ds) n (length ds) gating) same (subst (λ p. AreListed (GatedBy ds) nets p gating) all gates);
    }
