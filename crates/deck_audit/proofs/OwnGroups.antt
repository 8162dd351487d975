-- The groups of a circuit with the cards of a deck with keepers are those of its latches, so the rule of latches holds.
use Rattle.std.specs.List.{AllByRecursion}
use Rattle.std.specs.Prelude.{Bool, Contains, Some, false, slice_get, true, ◌⊎◌}
use Rattle.std.proofs.Common.{List, ap, arith, inl, inr, refl, subst, sym, ℕ, ◌+◌, ◌∙◌, ◌≡◌}
use Rattle.std.proofs.lemmas.Option.{same_Some}
use Rattle.dom_base.proofs.Lists.{AllByRecursion-contains, Contains-slice_get}
use Rattle.dom_base.specs.declared.kind.Kind.TheVariants.{P as pch}
use Rattle.deck.specs.NamedDevices.{NamedDevice}
use Rattle.deck.specs.Paths.{Ends}
use Rattle.deck.specs.PortLayout.{master_pair, reset_pair, slave_pair}
use Rattle.deck.specs.declared.device.Device.{Device}
use Rattle.domino_cell.specs.Stage.{Inside, Top}
use Rattle.switch_model.specs.Laws.{EndsAt}
use Rattle.port_runs.specs.Periods.{vdd_port, vss_port}
use Rattle.circuit_law.specs.Exchanged.{exchange}
use Rattle.domino_law.specs.LooseDeck.{IsNet}
use Rattle.domino_law.specs.Nets.{At, Lm, Lmb, Ls, Lsb, Master, Net, Next, Part, Rs, Rsb, Slave, Vdd, Vss}
use Rattle.domino_law.specs.Shape.{IsLatchAt, Latch}
use Rattle.domino_law.specs.Spelled.{reset_card}
use Rattle.deck_audit.specs.Numbered.{group_of}
use Rattle.deck_audit.specs.Rules.{HasLatch, IsAtControl}
use Rattle.deck_audit.specs.Words.{AreAt, Group, IsGroup, StandsAt, group_cards, inner_nets, own_nets, reset_of}
use Rattle.deck_audit.proofs.LatchBlocks.{same_places}
use Rattle.deck_audit.proofs.OwnBlocks.{OfLatch, cell_no_latch, latch_block, one_latch_of}
use Rattle.deck_audit.proofs.OwnCards.{Carded, OwnDeck, apart, card_of_device, carded, dev_of, devices, inner_net, low_source, part_free, vdd_is}
use Rattle.deck_audit.proofs.OwnFacts.{ByGate, IsLatchCard, PlainGate, ends_of_card, facts, inside_gates_none, plain_no_control}
use Rattle.deck_audit.proofs.OwnLatches.{at_position, drain_of, gated_own, inner_is, latch_place, latch_same, nine, of_own, own_group, own_of, placed}
use Rattle.deck_audit.proofs.RuleFacts.{AtPlace, cards_at, end_of, twin_ends, twin_gate}
use Rattle.switch_model.proofs.Searches.{ends_at}

-- two unordered pairs are one
abbrev Pairs : ℕ → ℕ → ℕ → ℕ → Type 0
Pairs a b c e = ((a ≡ c) × (b ≡ e)) ⊎ ((a ≡ e) × (b ≡ c))

same_ends : (d : Device) (a b c e : ℕ) → Ends d a b → Ends d c e → Pairs a b c e
same_ends d a b c e (inl x) (inl y) = inl (sym x.0 ∙ y.0, sym x.1 ∙ y.1)
same_ends d a b c e (inl x) (inr y) = inr (sym x.0 ∙ y.1, sym x.1 ∙ y.0)
same_ends d a b c e (inr x) (inl y) = inr (sym x.0 ∙ y.1, sym x.1 ∙ y.0)
same_ends d a b c e (inr x) (inr y) = inl (sym x.0 ∙ y.0, sym x.1 ∙ y.1)

-- which half of a latch's stage an inner net is in
abbrev half : Net → ℕ
half (At part (Inside v n)) = v
half a = 2

module _ (w : OwnDeck) where
  -- a stage of two halves, towards the supplies, whose top two cards share a net
  resolve : (Q : ℕ → Part) → ((j k : ℕ) → Q j ≡ Q k → j ≡ k) → (j k : ℕ) → IsNet w.shape (At (Q j) Top) → IsNet w.shape (At (Q j) (Inside 0 0)) → IsNet w.shape (At (Q k) Top) → IsNet w.shape (At (Q k) (Inside 1 0)) → (m u v : ℕ)
      → Pairs m u (w.net (At (Q j) Top)) (w.net (At (Q j) (Inside 0 0))) → Pairs m v (w.net (At (Q k) Top)) (w.net (At (Q k) (Inside 1 0)))
      → (j ≡ k) × (m ≡ w.net (At (Q j) Top)) × (u ≡ w.net (At (Q j) (Inside 0 0))) × (v ≡ w.net (At (Q j) (Inside 1 0)))
  resolve Q one j k tj uj tk vk m u v (inl a) (inl b) =
      let same : j ≡ k = one j k (part (apart w (At (Q j) Top) (At (Q k) Top) tj tk (sym a.0 ∙ b.0))) in
      (same, a.0, a.1, b.1 ∙ ap (λ i. w.net (At (Q i) (Inside 1 0))) (sym same))
    where
      part : At (Q j) Top ≡ At (Q k) Top → Q j ≡ Q k
      part e = cc
  resolve Q one j k tj uj tk vk m u v (inl a) (inr b) = let e : 2 ≡ 1 = ap half (apart w (At (Q j) Top) (At (Q k) (Inside 1 0)) tj vk (sym a.0 ∙ b.0)) in absurd (omega (arith, e))
  resolve Q one j k tj uj tk vk m u v (inr a) (inl b) = let e : 0 ≡ 2 = ap half (apart w (At (Q j) (Inside 0 0)) (At (Q k) Top) uj tk (sym a.0 ∙ b.0)) in absurd (omega (arith, e))
  resolve Q one j k tj uj tk vk m u v (inr a) (inr b) = let e : 0 ≡ 1 = ap half (apart w (At (Q j) (Inside 0 0)) (At (Q k) (Inside 1 0)) uj vk (sym a.0 ∙ b.0)) in absurd (omega (arith, e))

  one_master : (j k : ℕ) → Master j ≡ Master k → j ≡ k
  one_master j k e = cc

  one_slave : (j k : ℕ) → Slave j ≡ Slave k → j ≡ k
  one_slave j k e = cc

  part_of : (p q : Part) → At p Top ≡ At q Top → p ≡ q
  part_of p q e = cc

  inside_of : (p q : Part) (v : ℕ) → At p (Inside v 0) ≡ At q (Inside v 0) → p ≡ q
  inside_of p q v e = cc

  one_latch_at : (j k : ℕ) (b c : Latch) → IsLatchAt w.shape j b → IsLatchAt w.shape k c → j ≡ k → b ≡ c
  one_latch_at j k b c x y e = same_Some _ _ (sym x ∙ (λ i. slice_get w.shape.latches (e i)) ∙ y)

  module _ (g : Group) (ps : List ℕ) (is : IsGroup (devices w) w.roles g ps) where
    t : AllByRecursion (AtPlace (devices w) ps) (group_cards w.roles g)
    t = cards_at (devices w) w.roles g ps is

    -- the card of a device of the group that a net gates which gates no plain device
    by_gate : (a : Net) → IsNet w.shape a → (PlainGate a → ⊥) → (e : Device) → AtPlace (devices w) ps e → e.gate ≡ w.net a
        → (j : ℕ) × (b : Latch) × IsLatchAt w.shape j b × ((x : NamedDevice Net) × ByGate j b a x × Pairs e.drain e.source (w.net x.drain) (w.net x.source))
    by_gate a n plain e at z =
        let h = carded w at.place at.device at.there in
        let f = facts w h.index h.card h.at in
        let same = apart w h.card.gate a f.gate_is n (sym (twin_gate at.device (dev_of w.net h.card) h.twin) ∙ twin_gate at.device e at.twin ∙ z) in
        let c : IsLatchCard w h.card = elim f.gating [ inl p ↦ absurd (plain (subst PlainGate same p)) | inr c ↦ c ] in
        (c.0, c.1, c.2, (h.card, subst (λ a. ByGate c.0 c.1 a h.card) same c.4, same_ends at.device e.drain e.source (w.net h.card.drain) (w.net h.card.source) (twin_ends at.device e at.twin) (twin_ends at.device (dev_of w.net h.card) h.twin)))

    -- the ends of a card that is known
    known : (a b : ℕ) (x y : NamedDevice Net) → x ≡ y → Pairs a b (w.net x.drain) (w.net x.source) → Pairs a b (w.net y.drain) (w.net y.source)
    known a b x y e p = subst (λ (z : NamedDevice Net). Pairs a b (w.net z.drain) (w.net z.source)) e p

    lmb : master_pair w.roles + 1 ≡ w.net Lmb
    lmb = omega (arith, ((w.deck).ports).numbers Lmb tt)

    lm : master_pair w.roles ≡ w.net Lm
    lm = sym (((w.deck).ports).numbers Lm tt)

    lsb : slave_pair w.roles + 1 ≡ w.net Lsb
    lsb = omega (arith, ((w.deck).ports).numbers Lsb tt)

    ls : slave_pair w.roles ≡ w.net Ls
    ls = sym (((w.deck).ports).numbers Ls tt)

    rsb : reset_pair w.roles + 1 ≡ w.net Rsb
    rsb = omega (arith, ((w.deck).ports).numbers Rsb tt)

    rs : reset_pair w.roles ≡ w.net Rs
    rs = sym (((w.deck).ports).numbers Rs tt)

    -- its master
    the_master : (j : ℕ) × (b : Latch) × IsLatchAt w.shape j b × (g.master ≡ w.net (At (Master j) Top)) × (g.master_up ≡ w.net (At (Master j) (Inside 0 0))) × (g.master_down ≡ w.net (At (Master j) (Inside 1 0)))
    the_master =
        let x = by_gate Lmb tt (λ z. z) _ t.0 lmb in
        let y = by_gate Lm tt (λ z. z) _ t.1.1.0 lm in
        let r = resolve (λ j. Master j) one_master x.0 y.0 (x.1, x.2) (inner_is w x.0 x.1 x.2 0 (omega arith)) (y.1, y.2) (inner_is w y.0 y.1 y.2 1 (omega arith)) g.master g.master_up g.master_down
        (known g.master g.master_up x.3.0 _ x.3.1 x.3.2) (known g.master g.master_down y.3.0 _ y.3.1 y.3.2) in
        (x.0, x.1, x.2, r.1, r.2, r.3)

    -- its slave
    the_slave : (j : ℕ) × (b : Latch) × IsLatchAt w.shape j b × (g.output ≡ w.net (At (Slave j) Top)) × (g.output_up ≡ w.net (At (Slave j) (Inside 0 0))) × (g.output_down ≡ w.net (At (Slave j) (Inside 1 0)))
    the_slave =
        let x = by_gate Lsb tt (λ z. z) _ t.1.1.1.1.0 lsb in
        let y = by_gate Ls tt (λ z. z) _ t.1.1.1.1.1.1.0 ls in
        let r = resolve (λ j. Slave j) one_slave x.0 y.0 (x.1, x.2) (inner_is w x.0 x.1 x.2 0 (omega arith)) (y.1, y.2) (inner_is w y.0 y.1 y.2 1 (omega arith)) g.output g.output_up g.output_down
        (known g.output g.output_up x.3.0 _ x.3.1 x.3.2) (known g.output g.output_down y.3.0 _ y.3.1 y.3.2) in
        (x.0, x.1, x.2, r.1, r.2, r.3)

    -- they are of one latch, by the card that the master gates
    of_one : (the_master).0 ≡ (the_slave).0
    of_one =
        let m = the_master in
        let q = the_slave in
        let x = by_gate (At (Master m.0) Top) (m.1, m.2) (λ z. z) _ t.1.1.1.1.1.1.1.0 m.3 in
        let up = inner_is w x.0 x.1 x.2 0 (omega arith) in
        let down = inner_is w x.0 x.1 x.2 1 (omega arith) in
        let mine = inner_is w q.0 q.1 q.2 1 (omega arith) in
        x.3.1.0 ∙ elim x.3.1.1 [
          | inl z ↦ elim (known g.output_down vss_port x.3.0 _ z x.3.2) [
            | inl e ↦ let v : 1 ≡ 0 = ap half (apart w (At (Slave q.0) (Inside 1 0)) (At (Slave x.0) (Inside 0 0)) mine up (sym q.5 ∙ e.0)) in absurd (omega (arith, v))
            | inr e ↦ let v : 1 ≡ 2 = ap half (apart w (At (Slave q.0) (Inside 1 0)) Vdd mine tt (sym q.5 ∙ e.0)) in absurd (omega (arith, v))
          ]
          | inr z ↦ elim (known g.output_down vss_port x.3.0 _ z x.3.2) [
            | inl e ↦ one_slave x.0 q.0 (inside_of (Slave x.0) (Slave q.0) 1 (apart w (At (Slave x.0) (Inside 1 0)) (At (Slave q.0) (Inside 1 0)) down mine (sym e.0 ∙ q.5)))
            | inr e ↦ let v : 1 ≡ 2 = ap half (apart w (At (Slave q.0) (Inside 1 0)) Vss mine tt (sym q.5 ∙ e.0)) in absurd (omega (arith, v))
          ]
        ]

    -- its data, by the card between the master's upper net and `vdd`
    the_data : g.data_net ≡ w.net (At (Next (the_master).0) Top)
    the_data =
        let m = the_master in
        let a = t.1.0 in
        let h = carded w a.place a.device a.there in
        let up : Ends a.device g.master_up vdd_port = twin_ends a.device _ a.twin in
        let n = inner_is w m.0 m.1 m.2 0 (omega arith) in
        let touch : EndsAt a.device (w.net (At (Master m.0) (Inside 0 0))) = rw (← m.4) (ends_at a.device g.master_up vdd_port up) in
        let e = ends_of_card w a.place a.device h (At (Master m.0) (Inside 0 0)) n touch in
        let o = drain_of w m.0 m.1 m.2 a.place a.device h (At (Master m.0) (Inside 0 0)) n refl touch in
        let r = by_ends m.0 m.1 m.2 a.place a.device h o e in
        let pairs = same_ends a.device g.master_up vdd_port (w.net h.card.drain) (w.net h.card.source) up (twin_ends a.device (dev_of w.net h.card) h.twin) in
        elim r [
          | inl z ↦ absurd (elim (known g.master_up vdd_port h.card _ z pairs) [
            | inl y ↦ let v : 0 ≡ 2 = ap half (apart w (At (Master m.0) (Inside 0 0)) (At (Master m.0) Top) n (m.1, m.2) (sym m.4 ∙ y.0)) in omega (arith, v)
            | inr y ↦ low_source w Vdd tt (rw (vdd_is w ∙ y.1) (part_free w (Master m.0) Top (m.1, m.2)))
          ])
          | inr z ↦ sym (twin_gate a.device _ a.twin) ∙ twin_gate a.device (dev_of w.net h.card) h.twin ∙ ap (λ (y : NamedDevice Net). w.net y.gate) z
        ]
      where
        Up : ℕ → NamedDevice Net → Type 0
        Up j x =
            (x ≡ record { kind = pch; drain = At (Master j) Top; gate = Lmb; source = At (Master j) (Inside 0 0) })
            ⊎ (x ≡ record { kind = pch; drain = At (Master j) (Inside 0 0); gate = At (Next j) Top; source = Vdd })

        by_ends : (j : ℕ) (b : Latch) (i : IsLatchAt w.shape j b) (p : ℕ) (d : Device) (h : Carded w p d) → OfLatch j h.card.drain → (h.card.drain ≡ At (Master j) (Inside 0 0)) ⊎ (h.card.source ≡ At (Master j) (Inside 0 0)) → Up j h.card
        by_ends j b i p d h o e =
            let q = (latch_place w j b i).from h.index h.card h.at o in
            AllByRecursion-contains (λ x. (x.drain ≡ At (Master j) (Inside 0 0)) ⊎ (x.source ≡ At (Master j) (Inside 0 0)) → Up j x) (latch_block j b) h.card each (Contains-slice_get (latch_block j b) q.0 h.card q.2) e
          where
            no : {A : Type 0} {x y : Net} → (x ≡ At (Master j) (Inside 0 0) → ⊥) → (y ≡ At (Master j) (Inside 0 0) → ⊥) → (x ≡ At (Master j) (Inside 0 0)) ⊎ (y ≡ At (Master j) (Inside 0 0)) → A
            no f g (inl z) = absurd (f z)
            no f g (inr z) = absurd (g z)

            down : At (Master j) (Inside 1 0) ≡ At (Master j) (Inside 0 0) → ⊥
            down e = let v : 1 ≡ 0 = ap half e in omega (arith, v)

            reset : (v : Bool) → ((reset_card j v).drain ≡ At (Master j) (Inside 0 0)) ⊎ ((reset_card j v).source ≡ At (Master j) (Inside 0 0)) → Up j (reset_card j v)
            reset false = no (λ z. cc) (λ z. cc)
            reset true = no (λ z. cc) (λ z. cc)

            each : AllByRecursion (λ x. (x.drain ≡ At (Master j) (Inside 0 0)) ⊎ (x.source ≡ At (Master j) (Inside 0 0)) → Up j x) (latch_block j b)
            each = (
              (λ e. inl refl),
              (
                (λ e. inr refl),
                (
                  no (λ z. cc) down,
                  (no down (λ z. cc), (no (λ z. cc) (λ z. cc), (no (λ z. cc) (λ z. cc), (no (λ z. cc) (λ z. cc), (no (λ z. cc) (λ z. cc), (reset b.init, tt)))))),
                ),
              ),
            )

    -- its start value, by its reset card
    the_start : (j : ℕ) × (b : Latch) × IsLatchAt w.shape j b × (b.init ≡ g.start) × (j ≡ (the_slave).0)
    the_start = by g.start t.1.1.1.1.1.1.1.1.0
      where
        by : (v : Bool) → AtPlace (devices w) ps (reset_of w.roles g v) → (j : ℕ) × (b : Latch) × IsLatchAt w.shape j b × (b.init ≡ v) × (j ≡ (the_slave).0)
        by false a =
            let q = the_slave in
            let x = by_gate Rs tt (λ z. z) _ a rs in (
              x.0,
              x.1,
              x.2,
              x.3.1.0,
              elim (known g.output vss_port x.3.0 _ x.3.1.1 x.3.2) [
                | inl e ↦ one_slave x.0 q.0 (part_of (Slave x.0) (Slave q.0) (apart w (At (Slave x.0) Top) (At (Slave q.0) Top) (x.1, x.2) (q.1, q.2) (sym e.0 ∙ q.3)))
                | inr e ↦ absurd (low_source w Vss tt (rw (sym e.0 ∙ q.3) (part_free w (Slave q.0) Top (q.1, q.2))))
              ],
            )
        by true a =
            let q = the_slave in
            let x = by_gate Rsb tt (λ z. z) _ a rsb in (
              x.0,
              x.1,
              x.2,
              x.3.1.0,
              elim (known g.output vdd_port x.3.0 _ x.3.1.1 x.3.2) [
                | inl e ↦ one_slave x.0 q.0 (part_of (Slave x.0) (Slave q.0) (apart w (At (Slave x.0) Top) (At (Slave q.0) Top) (x.1, x.2) (q.1, q.2) (sym e.0 ∙ q.3)))
                | inr e ↦ absurd (low_source w Vdd tt (rw (sym e.0 ∙ q.3) (part_free w (Slave q.0) Top (q.1, q.2))))
              ],
            )

    -- so the group is a latch's
    pub group_is : (j : ℕ) × (b : Latch) × IsLatchAt w.shape j b × (g ≡ group_of w.net j b)
    group_is =
        let m = the_master in
        let q = the_slave in
        let r = the_start in
        let e : q.0 ≡ m.0 = sym of_one in
        let start : g.start ≡ (m.1).init = sym r.3 ∙ ap (λ (b : Latch). b.init) (one_latch_at r.0 m.0 r.1 m.1 r.2 m.2 (r.4 ∙ e)) in
        let output : g.output ≡ w.net (At (Slave m.0) Top) = q.3 ∙ ap (λ j. w.net (At (Slave j) Top)) e in
        let output_up : g.output_up ≡ w.net (At (Slave m.0) (Inside 0 0)) = q.4 ∙ ap (λ j. w.net (At (Slave j) (Inside 0 0))) e in
        let output_down : g.output_down ≡ w.net (At (Slave m.0) (Inside 1 0)) = q.5 ∙ ap (λ j. w.net (At (Slave j) (Inside 1 0))) e in (
          m.0,
          m.1,
          m.2,
          (λ i. record {
            master = m.3 i;
            master_up = m.4 i;
            master_down = m.5 i;
            data_net = the_data i;
            output = output i;
            output_up = output_up i;
            output_down = output_down i;
            start = start i;
          }),
        )

  -- a group with a net of a latch is that latch's, at the same places
  pub one_group : (j : ℕ) (b : Latch) (i : IsLatchAt w.shape j b) (a : Net) → IsNet w.shape a → OfLatch j a → (g : Group) (ps : List ℕ) → IsGroup (devices w) w.roles g ps → Contains (own_nets g) (w.net a)
      → (g ≡ group_of w.net j b) × (ps ≡ (nine w j b i).places)
  one_group j b i a n o g ps is c =
      let k = group_is g ps is in
      let z = of_own w k.0 k.1 k.2 (w.net a) (subst (λ g. Contains (own_nets g) (w.net a)) k.3 c) in
      let same : k.0 ≡ j = one_latch_of k.0 j a (rw (apart w a z.0 n z.1 z.3) z.2) o in
      let e : g ≡ group_of w.net j b = k.3 ∙ (λ t. group_of w.net (same t) (one_latch_at k.0 j k.1 b k.2 i same t)) in
      (e, places e)
    where
      places : g ≡ group_of w.net j b → ps ≡ (nine w j b i).places
      places e =
          same_places (devices w) w.order (latch_place w j b i).offset (group_cards w.roles (group_of w.net j b)) at ps (nine w j b i).places
          (subst (λ g. AreAt (devices w) ps (group_cards w.roles g)) e is.cards) (own_group w j b i).cards
        where
          at : (q : ℕ) (f : Device) → slice_get (group_cards w.roles (group_of w.net j b)) q ≡ Some f → (p : ℕ) (d : Device) → StandsAt (devices w) p d → (d ≡ f) ⊎ (d ≡ exchange f) → slice_get w.order ((latch_place w j b i).offset + q) ≡ Some p
          at q f z p d st tw =
              let x = card_of_device w.net (latch_block j b) q f (subst (λ es. slice_get es q ≡ Some f) (sym (latch_same w j b i)) z) in
              at_position w j b i q x.0 x.1 p d st (subst (λ f. (d ≡ f) ⊎ (d ≡ exchange f)) (sym x.2) tw)

  -- the rule of latches at a net of a latch
  pub has_latch : (j : ℕ) (b : Latch) (i : IsLatchAt w.shape j b) (a : Net) → IsNet w.shape a → OfLatch j a → HasLatch (devices w) w.roles (w.net a)
  has_latch j b i a n o = record {
    group = group_of w.net j b;
    places = (nine w j b i).places;
    is_group = own_group w j b i;
    own = own_of w j b i a n o;
    one_group = λ g ps is c. one_group j b i a n o g ps is c;
    alone = λ p d m at c t.
        let y = of_own w j b i m c in
        let h = carded w p d at in
        placed w j b i p d h (drain_of w j b i p d h y.0 y.1 y.2 (rw (← y.3) t));
    inner_gate_none = λ p d at c. AllByRecursion-contains (λ n. d.gate ≡ n → ⊥) (inner_nets (group_of w.net j b)) d.gate (inner p d at (Master j) 0 (inner_is w j b i 0 (omega arith)), (inner p d at (Master j) 1 (inner_is w j b i 1 (omega arith)), (inner p d at (Slave j) 0 (inner_is w j b i 0 (omega arith)), (inner p d at (Slave j) 1 (inner_is w j b i 1 (omega arith)), tt)))) c refl;
    master_gates_own = λ p d at e. gated_own w j b i (At (Master j) Top) (b, i) (λ z. z) (λ m c x h. h.0) p d at e;
    no_ports = (
      inner_net w (Next j) Top (b, i) (λ m e. cc),
      (
        inner_net w (Master j) Top (b, i) (λ m e. cc),
        (
          inner_net w (Slave j) Top (b, i) (λ m e. cc),
          (
            inner_net w (Master j) (Inside 0 0) (inner_is w j b i 0 (omega arith)) (λ m e. cc),
            (
              inner_net w (Master j) (Inside 1 0) (inner_is w j b i 1 (omega arith)) (λ m e. cc),
              (inner_net w (Slave j) (Inside 0 0) (inner_is w j b i 0 (omega arith)) (λ m e. cc), (inner_net w (Slave j) (Inside 1 0) (inner_is w j b i 1 (omega arith)) (λ m e. cc), tt)),
            ),
          ),
        ),
      ),
    );
  }
    where
      inner : (p : ℕ) (d : Device) → StandsAt (devices w) p d → (part : Part) (v : ℕ) → IsNet w.shape (At part (Inside v 0)) → d.gate ≡ w.net (At part (Inside v 0)) → ⊥
      inner p d at part v n e =
          let h = carded w p d at in
          let f = facts w h.index h.card h.at in
          inside_gates_none w h.card f part v 0 (apart w h.card.gate (At part (Inside v 0)) f.gate_is n (sym (twin_gate d (dev_of w.net h.card) h.twin) ∙ e))

  -- so the rule holds at each net with a control
  pub latch_rule : (n : ℕ) → IsAtControl (devices w) w.roles n → HasLatch (devices w) w.roles n
  latch_rule n (free, p, d, at, t, control) =
      let h = carded w p d at in
      let f = facts w h.index h.card h.at in
      let c : IsLatchCard w h.card = elim f.gating [ inl z ↦ absurd (plain_no_control w h.card.gate f.gate_is z (rw (← twin_gate d (dev_of w.net h.card) h.twin) control)) | inr c ↦ c ] in
      elim (end_of d (w.net h.card.drain) (w.net h.card.source) n (twin_ends d (dev_of w.net h.card) h.twin) t) [
        | inl e ↦ rw e (has_latch c.0 c.1 c.2 h.card.drain f.drain_is c.3)
        | inr e ↦ elim f.joined [
          | inl z ↦ absurd (elim z [ inl y ↦ low_source w Vdd tt (rw (ap w.net (sym y) ∙ sym e) free) | inr y ↦ low_source w Vss tt (rw (ap w.net (sym y) ∙ sym e) free) ])
          | inr z ↦ elim z [
            | inl y ↦ absurd (cell_no_latch y.0 c.0 h.card.drain y.1 c.3)
            | inr y ↦ rw e (has_latch c.0 c.1 c.2 h.card.source f.source_is (subst (λ k. OfLatch k h.card.source) (one_latch_of y.0 c.0 h.card.drain y.1 c.3) y.2))
          ]
        ]
      ]
