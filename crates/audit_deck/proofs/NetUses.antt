-- What rule 5 asks of a net, and what the data of a latch gates.
use Rattle.std.specs.Prelude.{Contains, Some, slice_get, ◌≢◌, ◌⊎◌}
use Rattle.std.proofs.Common.{Bool, List, [], ap, arith, false, get_or, inl, inr, length, refl, subst, suc, sym, true, zero, ℕ, ◌+◌, ◌<◌, ◌∙◌, ◌∷◌, ◌≡◌, ◌≤◌}
use Rattle.std.proofs.lemmas.Option.{slice_get-get_or, slice_get_within}
use Rattle.dom_base.proofs.Lists.{Contains-slice_get, slice_get-contained}
use Rattle.deck.specs.PortLayout.{master_pair, reset_pair, slave_pair, source_count}
use Rattle.deck.specs.declared.device.Device.{Device}
use Rattle.deck.specs.declared.role.Roles.{Roles}
use Rattle.circuit_law.specs.Exchanged.{exchange}
use Rattle.port_runs.specs.Periods.{vdd_port, vss_port}
use Rattle.deck_audit.specs.Rules.{IsLeafNet, IsSinkInput}
use Rattle.deck_audit.specs.Words.{AreAt, Group, IsDynamic, IsGroup, StandsAt, group_cards, reset_of}
use Rattle.deck_audit.proofs.Lists.{distinct_at}
use Rattle.deck_audit.proofs.RuleFacts.{twin_gate}
use Rattle.audit_deck.specs.Indexes.{AreThose, EndingAt, GatedBy}
use Rattle.audit_deck.specs.Uses.{EndsNone, GatesItsLatch, GatesNone, HasBridge, IsBridgeFrom}
use Rattle.audit_deck.proofs.Found.{count_two, one_device, two_of}
use Rattle.audit_deck.proofs.Scans.{NoneBefore}

-- a list with no numbers, and one with some
module _ (P : ℕ → Type 0) (l : List ℕ) (are : AreThose P l) where
  pub none_in : length l ≡ 0 → (p : ℕ) → P p → ⊥
  none_in none p has = let y = are.full p has in let z = slice_get_within l y.0 p y.1 in omega (arith, z, none)

  pub some_in : (length l ≡ 0 → ⊥) → (p : ℕ) × P p
  some_in some = let p = get_or l 0 0 in (p, are.sound 0 p (slice_get-get_or l 0 0 (omega (arith, some))))

module _ (ds : List Device) (roles : Roles) where
  pub leaf_for_sink : (i : ℕ) → IsLeafNet ds roles i → IsSinkInput ds roles i
  leaf_for_sink i (inl pin) = inr (inr (inl pin))
  leaf_for_sink i (inr (inl latch)) = inr (inr (inr (inl latch)))
  leaf_for_sink i (inr (inr (inl complement))) = inr (inr (inr (inr (inl complement))))
  leaf_for_sink i (inr (inr (inr cell))) = inr (inl cell)

  pub sink_leaf : (i : ℕ) → (i ≡ vdd_port → ⊥) → (i ≡ vss_port → ⊥) → (IsDynamic ds roles i → ⊥) → IsSinkInput ds roles i → IsLeafNet ds roles i
  sink_leaf i vdd vss dynamic (inl d) = absurd (dynamic d)
  sink_leaf i vdd vss dynamic (inr (inl cell)) = inr (inr (inr cell))
  sink_leaf i vdd vss dynamic (inr (inr (inl pin))) = inl pin
  sink_leaf i vdd vss dynamic (inr (inr (inr (inl latch)))) = inr (inl latch)
  sink_leaf i vdd vss dynamic (inr (inr (inr (inr (inl complement))))) = inr (inr (inl complement))
  sink_leaf i vdd vss dynamic (inr (inr (inr (inr (inr (inl e)))))) = absurd (vdd e)
  sink_leaf i vdd vss dynamic (inr (inr (inr (inr (inr (inr e)))))) = absurd (vss e)

  -- no bridge is among the devices that end at the net
  pub no_bridge : (n : ℕ) (l : List ℕ) → AreThose (EndingAt ds n) l → (i : ℕ) → length l ≤ i → NoneBefore (IsBridgeFrom ds roles n) l i
      → HasBridge ds roles n → ⊥
  no_bridge n l are i done none (p, (d, at, two, e)) =
      let y = are.full p (d, at, inl e) in
      none y.0 p (let z = slice_get_within l y.0 p y.1 in omega (arith, z, done)) y.1 (d, at, two, e)

-- the card of each place, and the place of each card
pub card_at : (ds : List Device) (ps : List ℕ) (es : List Device) → AreAt ds ps es → (j p : ℕ) → slice_get ps j ≡ Some p
    → (e : Device) × (slice_get es j ≡ Some e) × (d : Device) × StandsAt ds p d × ((d ≡ e) ⊎ (d ≡ exchange e))
card_at ds [] [] h j p at = absurd cc
card_at ds (q ∷ ps) (e ∷ es) h zero p at = let z : q ≡ p = cc in (e, refl, h.0.0, ap (slice_get ds) (sym z) ∙ h.0.1, h.0.2)
card_at ds (q ∷ ps) (e ∷ es) h (suc j) p at = card_at ds ps es h.1 j p at
card_at ds [] (e ∷ es) h j p at = absurd h
card_at ds (q ∷ ps) [] h j p at = absurd h

pub place_of : (ds : List Device) (ps : List ℕ) (es : List Device) → AreAt ds ps es → (j : ℕ) (e : Device) → slice_get es j ≡ Some e
    → (p : ℕ) × (slice_get ps j ≡ Some p) × (d : Device) × StandsAt ds p d × ((d ≡ e) ⊎ (d ≡ exchange e))
place_of ds [] [] h j e at = absurd cc
place_of ds (q ∷ ps) (f ∷ es) h zero e at = let z : f ≡ e = cc in (q, refl, h.0.0, h.0.1, subst (λ x. (h.0.0 ≡ x) ⊎ (h.0.0 ≡ exchange x)) z h.0.2)
place_of ds (q ∷ ps) (f ∷ es) h (suc j) e at = place_of ds ps es h.1 j e at
place_of ds [] (f ∷ es) h j e at = absurd h
place_of ds (q ∷ ps) [] h j e at = absurd h

module _ (ds : List Device) (roles : Roles) (g : Group) (places : List ℕ) (is : IsGroup ds roles g places) where
  reset_gate : (b : Bool) → (reset_of roles g b).gate ≡ g.data_net → ⊥
  reset_gate false e = omega (arith, e, is.free.0)
  reset_gate true e = omega (arith, e, is.free.0)

  -- of the cards just two have the data as gate
  data_card : (j : ℕ) (e : Device) → slice_get (group_cards roles g) j ≡ Some e → e.gate ≡ g.data_net → (j ≡ 1) ⊎ (j ≡ 3)
  data_card zero e at gate = let z : master_pair roles + 1 ≡ g.data_net = cc in absurd (omega (arith, z, is.free.0))
  data_card (suc zero) e at gate = inl refl
  data_card (suc (suc zero)) e at gate = let z : master_pair roles ≡ g.data_net = cc in absurd (omega (arith, z, is.free.0))
  data_card (suc (suc (suc zero))) e at gate = inr refl
  data_card (suc (suc (suc (suc zero)))) e at gate = let z : slave_pair roles + 1 ≡ g.data_net = cc in absurd (omega (arith, z, is.free.0))
  data_card (suc (suc (suc (suc (suc zero))))) e at gate = let z : g.master ≡ g.data_net = cc in absurd (is.differ.0.0 z)
  data_card (suc (suc (suc (suc (suc (suc zero)))))) e at gate = let z : slave_pair roles ≡ g.data_net = cc in absurd (omega (arith, z, is.free.0))
  data_card (suc (suc (suc (suc (suc (suc (suc zero))))))) e at gate = let z : g.master ≡ g.data_net = cc in absurd (is.differ.0.0 z)
  data_card (suc (suc (suc (suc (suc (suc (suc (suc zero)))))))) e at gate =
      let z : reset_of roles g g.start ≡ e = cc in absurd (reset_gate g.start (ap (λ (d : Device). d.gate) z ∙ gate))
  data_card (suc (suc (suc (suc (suc (suc (suc (suc (suc j))))))))) e at gate = absurd cc

  card_place : (j : ℕ) (e : Device) → slice_get (group_cards roles g) j ≡ Some e → e.gate ≡ g.data_net
      → (p : ℕ) × (slice_get places j ≡ Some p) × GatedBy ds g.data_net p
  card_place j e at gate =
      let y = place_of ds places (group_cards roles g) is.cards j e at in
      (y.0, y.1, (y.2, y.3, twin_gate y.2 e y.4 ∙ gate))

  up_card : (p : ℕ) × (slice_get places 1 ≡ Some p) × GatedBy ds g.data_net p
  up_card = card_place 1 _ refl refl

  down_card : (p : ℕ) × (slice_get places 3 ≡ Some p) × GatedBy ds g.data_net p
  down_card = card_place 3 _ refl refl

  apart : up_card.0 ≡ down_card.0 → ⊥
  apart e = let z = distinct_at places is.once 1 3 down_card.0 (up_card.1 ∙ ap Some e) down_card.1 in omega (arith, z)

  -- a device of the latch that its data gates is one of those two
  of_two : (p : ℕ) → Contains places p → GatedBy ds g.data_net p → (p ≡ up_card.0) ⊎ (p ≡ down_card.0)
  of_two p c (d, at, gate) =
      let y = slice_get-contained places p c in
      let k = card_at ds places (group_cards roles g) is.cards y.0 p y.1 in
      let same = one_device ds p k.2 d k.3 at in
      elim (data_card y.0 k.0 k.1 (sym (twin_gate k.2 k.0 k.4) ∙ ap (λ (v : Device). v.gate) same ∙ gate)) [
        | inl e ↦ let z : Some p ≡ Some up_card.0 = sym y.1 ∙ ap (slice_get places) e ∙ up_card.1 in inl cc
        | inr e ↦ let z : Some p ≡ Some down_card.0 = sym y.1 ∙ ap (slice_get places) e ∙ down_card.1 in inr cc
      ]

  module _ (l : List ℕ) (are : AreThose (GatedBy ds g.data_net) l) where
    pub two_are_own : length l ≡ 2 → (p : ℕ) → GatedBy ds g.data_net p → Contains places p
    two_are_own two p gated =
        let y = are.full p gated in
        let u = are.full up_card.0 up_card.2 in
        let d = are.full down_card.0 down_card.2 in
        pick (two_of l two y.0 p y.1) (two_of l two u.0 up_card.0 u.1) (two_of l two d.0 down_card.0 d.1)
      where
        up_in : (p : ℕ) → p ≡ up_card.0 → Contains places p
        up_in p e = Contains-slice_get places 1 p (up_card.1 ∙ ap Some (sym e))

        down_in : (p : ℕ) → p ≡ down_card.0 → Contains places p
        down_in p e = Contains-slice_get places 3 p (down_card.1 ∙ ap Some (sym e))

        pick : {a b p : ℕ} → (p ≡ a) ⊎ (p ≡ b) → (up_card.0 ≡ a) ⊎ (up_card.0 ≡ b) → (down_card.0 ≡ a) ⊎ (down_card.0 ≡ b) → Contains places p
        pick {p = p} (inl x) (inl y) z = up_in p (x ∙ sym y)
        pick {p = p} (inr x) (inr y) z = up_in p (x ∙ sym y)
        pick {p = p} (inl x) (inr y) (inl z) = down_in p (x ∙ sym z)
        pick {p = p} (inr x) (inl y) (inr z) = down_in p (x ∙ sym z)
        pick {p = p} (inl x) (inr y) (inr z) = absurd (apart (y ∙ sym z))
        pick {p = p} (inr x) (inl y) (inl z) = absurd (apart (y ∙ sym z))

    pub own_are_two : ((p : ℕ) → GatedBy ds g.data_net p → Contains places p) → length l ≡ 2
    own_are_two own =
        count_two (GatedBy ds g.data_net) l are up_card.0 down_card.0 up_card.2 down_card.2 apart (λ p gated. of_two p (own p gated) gated)

module _ (ds : List Device) (roles : Roles) (n : ℕ) (l : List ℕ) (are : AreThose (GatedBy ds n) l) where
  pub gates_two : length l ≡ 2 → GatesItsLatch ds roles n
  gates_two two g places is e p d at gate =
      two_are_own ds roles g places is l (subst (λ m. AreThose (GatedBy ds m) l) (sym e) are) two p (d, at, gate ∙ sym e)

  pub two_gated : (g : Group) (places : List ℕ) → IsGroup ds roles g places → g.data_net ≡ n → GatesItsLatch ds roles n → length l ≡ 2
  two_gated g places is e own =
      own_are_two ds roles g places is l (subst (λ m. AreThose (GatedBy ds m) l) (sym e) are)
      (λ p (d, at, gate). own g places is e p d at (gate ∙ e))
