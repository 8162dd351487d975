-- The latches of a deck with keepers: their nine cards at places, as groups.
use Rattle.std.specs.List.{AllByRecursion}
use Rattle.std.specs.Prelude.{Bool, Contains, Some, false, slice_get, true, ◌≢◌, ◌⊎◌}
use Rattle.std.proofs.Common.{List, [], ap, arith, inl, inr, map, refl, subst, suc, sym, zero, ℕ, ◌+◌, ◌<◌, ◌∙◌, ◌∷◌, ◌≡◌}
use Rattle.dom_base.proofs.Lists.{AllByRecursion-contains, Contains-slice_get}
use Rattle.deck.specs.NamedDevices.{NamedDevice}
use Rattle.deck.specs.declared.device.Device.{Device}
use Rattle.domino_cell.specs.Stage.{Inside, Top}
use Rattle.switch_model.specs.Laws.{EndsAt}
use Rattle.circuit_law.specs.Counts.{Distinct}
use Rattle.domino_law.specs.LooseDeck.{IsNet}
use Rattle.domino_law.specs.Nets.{At, Master, Net, Next, Slave}
use Rattle.domino_law.specs.Shape.{IsLatchAt, Latch}
use Rattle.domino_law.specs.Spelled.{one_latch}
use Rattle.deck_audit.specs.Numbered.{group_of}
use Rattle.deck_audit.specs.Words.{AreAt, Group, IsGroup, StandsAt, group_cards, own_nets}
use Rattle.deck_audit.proofs.LatchBlocks.{BlockPlaces, block_places, distinct_block, spot, spot_at}
use Rattle.deck_audit.proofs.Offsets.{Offset}
use Rattle.deck_audit.proofs.OwnBlocks.{OfLatch, cell_no_latch, keeper_cards, latch_block, latch_offset, latch_own, one_latch_of, supply_no_latch}
use Rattle.deck_audit.proofs.LatchCards.{group_same}
use Rattle.deck_audit.proofs.OwnCards.{Carded, IsTwin, OwnDeck, Placed, apart, card_of_device, carded, dev_of, device_at, devices, devices_of, part_free, place_of}
use Rattle.deck_audit.proofs.OwnFacts.{ByGate, Joined, PlainGate, ends_of_card, facts}
use Rattle.deck_audit.proofs.RuleFacts.{twin_ends, twin_gate, twin_kind}
use Rattle.switch_model.proofs.Searches.{ends_at}

-- no two nets of a list are one
abbrev NetsDiffer : List Net → Type 0
NetsDiffer [] = Unit {0}
NetsDiffer (a ∷ rest) = AllByRecursion (λ b. b ≡ a → ⊥) rest × NetsDiffer rest

module _ (w : OwnDeck) where
  -- their numbers differ
  distinct_nets : (xs : List Net) → AllByRecursion (IsNet w.shape) xs → NetsDiffer xs → Distinct (map w.net xs)
  distinct_nets [] h d = tt
  distinct_nets (a ∷ rest) h d = (each rest h.1 d.0, distinct_nets rest h.1 d.1)
    where
      each : (bs : List Net) → AllByRecursion (IsNet w.shape) bs → AllByRecursion (λ b. b ≡ a → ⊥) bs → AllByRecursion (λ m. m ≢ w.net a) (map w.net bs)
      each [] k d = tt
      each (b ∷ bs) k d = ((λ e. d.0 (apart w b a k.0 h.0 e)), each bs k.1 d.1)

  module _ (j : ℕ) (b : Latch) (i : IsLatchAt w.shape j b) where
    abbrev pub latch_place : Offset (λ x. OfLatch j x.drain) (keeper_cards w.shape) (latch_block j b)
    latch_place = latch_offset w.shape j b i

    pub nine : BlockPlaces (devices w) w.order latch_place.offset (devices_of w.net (latch_block j b))
    nine =
        block_places (devices w) w.order latch_place.offset (devices_of w.net (latch_block j b))
        (λ q e z. let x = card_of_device w.net (latch_block j b) q e z in subst (λ e. Placed (devices w) w.order (latch_place.offset + q) e) x.2 (place_of w (latch_place.offset + q) x.0 (latch_place.to q x.0 x.1)))

    abbrev g : Group
    g = group_of w.net j b

    -- the cards of the latch are those of its group
    pub latch_same : devices_of w.net (latch_block j b) ≡ group_cards w.roles (group_of w.net j b)
    latch_same = by b.init
      where
        by : (v : Bool) → devices_of w.net (one_latch j v) ≡ group_cards w.roles (group_of w.net j (record { init = v; next = b.next }))
        by false = group_same w.roles w.net w.shape ((w.deck).ports).numbers j (record { init = false; next = b.next })
        by true = group_same w.roles w.net w.shape ((w.deck).ports).numbers j (record { init = true; next = b.next })

    abbrev group_list : List Net
    group_list =
        At (Next j) Top ∷ At (Master j) Top ∷ At (Slave j) Top ∷ At (Master j) (Inside 0 0) ∷ At (Master j) (Inside 1 0) ∷ At (Slave j) (Inside 0 0) ∷ At (Slave j) (Inside 1 0) ∷ []

    pub inner_is : (v : ℕ) → v < 2 → IsNet w.shape (At (Master j) (Inside v 0))
    inner_is v l = ((b, i), l, refl)

    list_is : AllByRecursion (IsNet w.shape) group_list
    list_is = ((b, i), ((b, i), ((b, i), (inner_is 0 (omega arith), (inner_is 1 (omega arith), (inner_is 0 (omega arith), (inner_is 1 (omega arith), tt)))))))

    list_differs : NetsDiffer group_list
    list_differs = (
      ((λ e. cc), ((λ e. cc), ((λ e. cc), ((λ e. cc), ((λ e. cc), ((λ e. cc), tt)))))),
      (
        ((λ e. cc), ((λ e. cc), ((λ e. cc), ((λ e. cc), ((λ e. cc), tt))))),
        (
          ((λ e. cc), ((λ e. cc), ((λ e. cc), ((λ e. cc), tt)))),
          ((half, ((λ e. cc), ((λ e. cc), tt))), (((λ e. cc), ((λ e. cc), tt)), ((half', tt), (tt, tt)))),
        ),
      ),
    )
      where
        first : Net → ℕ
        first (At part (Inside v n)) = v
        first a = 0

        half : At (Master j) (Inside 1 0) ≡ At (Master j) (Inside 0 0) → ⊥
        half e = let z : 1 ≡ 0 = ap first e in omega (arith, z)

        half' : At (Slave j) (Inside 1 0) ≡ At (Slave j) (Inside 0 0) → ⊥
        half' e = let z : 1 ≡ 0 = ap first e in omega (arith, z)

    pub own_group : IsGroup (devices w) w.roles (group_of w.net j b) nine.places
    own_group = record {
      cards = subst (AreAt (devices w) nine.places) latch_same nine.cards;
      once = distinct_block w.order (w.in_order).once latch_place.offset nine.places nine.listed;
      differ = distinct_nets group_list list_is list_differs;
      free = (
        part_free w (Next j) Top (b, i),
        (
          part_free w (Master j) Top (b, i),
          (
            part_free w (Slave j) Top (b, i),
            (
              part_free w (Master j) (Inside 0 0) (inner_is 0 (omega arith)),
              (part_free w (Master j) (Inside 1 0) (inner_is 1 (omega arith)), (part_free w (Slave j) (Inside 0 0) (inner_is 0 (omega arith)), (part_free w (Slave j) (Inside 1 0) (inner_is 1 (omega arith)), tt))),
            ),
          ),
        ),
      );
    }

    -- the own nets of the group are the nets of the latch
    pub own_of : (a : Net) → IsNet w.shape a → OfLatch j a → Contains (own_nets (group_of w.net j b)) (w.net a)
    own_of (At (Master k) Top) n e = Contains-slice_get (own_nets (group_of w.net j b)) 0 _ (ap (λ m. Some (w.net (At (Master m) Top))) e)
    own_of (At (Slave k) Top) n e = Contains-slice_get (own_nets (group_of w.net j b)) 1 _ (ap (λ m. Some (w.net (At (Slave m) Top))) e)
    own_of (At (Master k) (Inside zero c)) n e = Contains-slice_get (own_nets (group_of w.net j b)) 2 _ (λ t. Some (w.net (At (Master (e t)) (Inside 0 (sym n.2 t)))))
    own_of (At (Master k) (Inside (suc zero) c)) n e = Contains-slice_get (own_nets (group_of w.net j b)) 3 _ (λ t. Some (w.net (At (Master (e t)) (Inside 1 (sym n.2 t)))))
    own_of (At (Slave k) (Inside zero c)) n e = Contains-slice_get (own_nets (group_of w.net j b)) 4 _ (λ t. Some (w.net (At (Slave (e t)) (Inside 0 (sym n.2 t)))))
    own_of (At (Slave k) (Inside (suc zero) c)) n e = Contains-slice_get (own_nets (group_of w.net j b)) 5 _ (λ t. Some (w.net (At (Slave (e t)) (Inside 1 (sym n.2 t)))))
    own_of (At (Master k) (Inside (suc (suc v)) c)) n e = absurd (omega (arith, n.1))
    own_of (At (Slave k) (Inside (suc (suc v)) c)) n e = absurd (omega (arith, n.1))
    own_of a n e = absurd e

    pub of_own : (n : ℕ) → Contains (own_nets (group_of w.net j b)) n → (a : Net) × IsNet w.shape a × OfLatch j a × (n ≡ w.net a)
    of_own n c =
        AllByRecursion-contains (λ n. (a : Net) × IsNet w.shape a × OfLatch j a × (n ≡ w.net a)) (own_nets (group_of w.net j b)) n (
          (At (Master j) Top, (b, i), refl, refl),
          (
            (At (Slave j) Top, (b, i), refl, refl),
            (
              (At (Master j) (Inside 0 0), inner_is 0 (omega arith), refl, refl),
              (
                (At (Master j) (Inside 1 0), inner_is 1 (omega arith), refl, refl),
                ((At (Slave j) (Inside 0 0), inner_is 0 (omega arith), refl, refl), ((At (Slave j) (Inside 1 0), inner_is 1 (omega arith), refl, refl), tt)),
              ),
            ),
          ),
        ) c

    -- a card with a drain of the latch is one of its block
    pub record InLatch (p : ℕ) (x : NamedDevice Net) : Type 0 where
      pub position : ℕ
      pub listed : slice_get w.order (latch_place.offset + position) ≡ Some p
      pub at : slice_get (latch_block j b) position ≡ Some x

    pub in_latch : (p : ℕ) (d : Device) (h : Carded w p d) → OfLatch j h.card.drain → InLatch p h.card
    in_latch p d h o =
        let q = latch_place.from h.index h.card h.at o in
        record { position = q.0; listed = subst (λ j. slice_get w.order j ≡ Some p) q.1 h.listed; at = q.2 }

    pub placed : (p : ℕ) (d : Device) (h : Carded w p d) → OfLatch j h.card.drain → Contains nine.places p
    placed p d h o = let q = in_latch p d h o in nine.has q.position (dev_of w.net h.card) (device_at w.net (latch_block j b) q.position h.card q.at) p q.listed

    -- so is a card that ends at a net of the latch
    pub drain_of : (p : ℕ) (d : Device) (h : Carded w p d) (a : Net) → IsNet w.shape a → OfLatch j a → EndsAt d (w.net a) → OfLatch j h.card.drain
    drain_of p d h a n o t = by h.card (facts w h.index h.card h.at).joined (ends_of_card w p d h a n t)
      where
        by : (x : NamedDevice Net) → Joined w x → (x.drain ≡ a) ⊎ (x.source ≡ a) → OfLatch j x.drain
        by x g (inl z) = rw z o
        by x (inl g) (inr z) = absurd (supply_no_latch j x.source g (rw z o))
        by x (inr (inl g)) (inr z) = absurd (cell_no_latch g.0 j x.source g.2 (rw z o))
        by x (inr (inr g)) (inr z) = subst (λ k. OfLatch k x.drain) (one_latch_of g.0 j x.source g.2 (rw z o)) g.1

    -- a device like a card of the latch stands at its place
    pub at_position : (q : ℕ) (x : NamedDevice Net) → slice_get (latch_block j b) q ≡ Some x → (p : ℕ) (d : Device) → StandsAt (devices w) p d → IsTwin w.net d x → slice_get w.order (latch_place.offset + q) ≡ Some p
    at_position q x e p d at t =
        let h = carded w p d at in
        let f = facts w h.index h.card h.at in
        let g = facts w (latch_place.offset + q) x (latch_place.to q x e) in
        let kind = sym (twin_kind d (dev_of w.net h.card) h.twin) ∙ twin_kind d (dev_of w.net x) t in
        let gate = apart w h.card.gate x.gate f.gate_is g.gate_is (sym (twin_gate d (dev_of w.net h.card) h.twin) ∙ twin_gate d (dev_of w.net x) t) in
        let o = AllByRecursion-contains (λ x. OfLatch j x.drain) (latch_block j b) x (latch_own j b) (Contains-slice_get (latch_block j b) q x e) in
        let r = in_latch p d h (drain_of p d h x.drain g.drain_is o (ends_at d (w.net x.drain) (w.net x.source) (twin_ends d (dev_of w.net x) t))) in
        let same : r.position ≡ q = sym (spot_at j b.init r.position h.card r.at) ∙ (λ v. spot (gate v) (kind v)) ∙ spot_at j b.init q x e in
        subst (λ m. slice_get w.order (latch_place.offset + m) ≡ Some p) same r.listed

    -- a net that gates no plain device and in latches this one alone
    pub gated_own : (a : Net) → IsNet w.shape a → (PlainGate a → ⊥) → ((m : ℕ) (c : Latch) (x : NamedDevice Net) → ByGate m c a x → j ≡ m) → (p : ℕ) (d : Device) → StandsAt (devices w) p d → d.gate ≡ w.net a → Contains nine.places p
    gated_own a n plain own p d at e =
        let h = carded w p d at in
        let f = facts w h.index h.card h.at in
        let same = apart w h.card.gate a f.gate_is n (sym (twin_gate d (dev_of w.net h.card) h.twin) ∙ e) in
        elim f.gating [
          | inl z ↦ absurd (plain (subst PlainGate same z))
          | inr c ↦ placed p d h (subst (λ k. OfLatch k h.card.drain) (sym (own c.0 c.1 h.card (subst (λ a. ByGate c.0 c.1 a h.card) same c.4))) c.3)
        ]
