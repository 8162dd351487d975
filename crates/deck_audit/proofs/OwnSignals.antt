-- The dynamic nets, the latch nets and the complements of a circuit with the cards of a deck with keepers.
use Rattle.std.specs.Prelude.{◌⊎◌}
use Rattle.std.proofs.Common.{ap, arith, inl, inr, refl, subst, sym, ℕ, ◌+◌, ◌-◌, ◌<◌, ◌∙◌, ◌≡◌, ◌≤◌}
use Rattle.std.proofs.lemmas.Option.{slice_get_within}
use Rattle.dom_base.proofs.Lists.{AllByRecursion-contains, Contains-slice_get}
use Rattle.dom_base.specs.declared.kind.Kind.TheVariants.{Keep, N as nch, P as pch}
use Rattle.deck.specs.NamedDevices.{NamedDevice}
use Rattle.deck.specs.Paths.{Ends}
use Rattle.deck.specs.PortLayout.{first_pin}
use Rattle.deck.specs.declared.device.Device.{Device}
use Rattle.domino_cell.specs.Stage.{Top}
use Rattle.switch_model.specs.Laws.{EndsAt}
use Rattle.port_runs.specs.Periods.{IsClockPort, vdd_port}
use Rattle.domino_law.proofs.Statics.{left_is}
use Rattle.domino_law.specs.LooseDeck.{IsNet}
use Rattle.domino_law.specs.Nets.{At, Clock, Complement, DeckSignal, Dynamic, FromDynamic, FromLatch, FromOutput, FromPin, Gate, High, Lm, Lmb, Low, Ls, Lsb, Master, Minus, Net, Next, Output, Pin, Plus, Rs, Rsb, Sink, Slave, Vdd, Vss, gate_net, own, left_side}
use Rattle.domino_law.specs.Shape.{DominoCell, HasComplement, IsCellAt, IsGate, IsLatchAt, IsOutputAt, IsSignal, Latch, left_stage}
use Rattle.deck_audit.specs.Numbered.{group_of}
use Rattle.deck_audit.specs.Rules.{HasTwoSources, IsSinkInput}
use Rattle.deck_audit.specs.Words.{IsCellOutput, IsComplement, IsDynamic, IsFree, IsLatchData, IsLatchOutput, IsOutPort, IsPin, MayBeComplement, StandsAt}
use Rattle.deck_audit.proofs.OwnBlocks.{OfCell, OfLatch, tree_list}
use Rattle.deck_audit.proofs.OwnCards.{Carded, IsTwin, OwnDeck, apart, carded, dev_of, devices, low_source, part_free, part_no_out}
use Rattle.deck_audit.proofs.OwnFacts.{ByGate, Class, IsInv, IsLatchCard, TreeCard, facts, of_cell, of_complement, of_latch, of_next, of_sink, own_is_net, tree_info}
use Rattle.deck_audit.proofs.OwnCells.{Role, cell_place, front, is_down, is_foot, is_keeper, is_precharge, is_tree, is_up, role}
use Rattle.deck_audit.proofs.OwnGroups.{group_is}
use Rattle.deck_audit.proofs.OwnInverters.{complement_inverts}
use Rattle.deck_audit.proofs.OwnLatches.{nine, own_group}
use Rattle.deck_audit.proofs.RuleFacts.{end_of, not_keep_n, not_keep_p, not_p_n, twin_ends, twin_gate, twin_kind}
use Rattle.switch_model.proofs.Searches.{ends_at}

module _ (w : OwnDeck) where
  -- the drain of a card is no source
  pub drain_free : (x : NamedDevice Net) → IsNet w.shape x.drain → Class w x → IsFree w.roles (w.net x.drain)
  drain_free x n (of_cell k cell i h) = by x.drain n h
    where
      by : (a : Net) → IsNet w.shape a → OfCell k a → IsFree w.roles (w.net a)
      by (At (Dynamic j) spot) n h = part_free w (Dynamic j) spot n
      by (At (Output j) spot) n h = part_free w (Output j) spot n
      by a n h = absurd h
  drain_free x n (of_latch c) = by x.drain n c.3
    where
      by : (a : Net) → IsNet w.shape a → OfLatch c.0 a → IsFree w.roles (w.net a)
      by (At (Master j) spot) n h = part_free w (Master j) spot n
      by (At (Slave j) spot) n h = part_free w (Slave j) spot n
      by a n h = absurd h
  drain_free x n (of_complement l h (inl z)) = rw z (part_free w (Complement l) Top h)
  drain_free x n (of_complement l h (inr z)) = rw z (part_free w (Complement l) Top h)
  drain_free x n (of_sink m g h (inl z)) = rw z (part_free w (Sink m) Top (g, h))
  drain_free x n (of_sink m g h (inr z)) = rw z (part_free w (Sink m) Top (g, h))
  drain_free x n (of_next j b h (inl z)) = rw z (part_free w (Next j) Top (b, h))
  drain_free x n (of_next j b h (inr z)) = rw z (part_free w (Next j) Top (b, h))

  pub no_two_sources : (p : ℕ) (d : Device) → StandsAt (devices w) p d → HasTwoSources w.roles d → ⊥
  no_two_sources p d at h =
      let k = carded w p d at in
      let y = facts w k.index k.card k.at in
      by (ends_at d (w.net (k.card).drain) (w.net (k.card).source) (twin_ends d (dev_of w.net k.card) k.twin)) (drain_free k.card y.drain_is y.class)
    where
      by : {m : ℕ} → EndsAt d m → IsFree w.roles m → ⊥
      by (inl z) f = h.0 (rw z f)
      by (inr z) f = h.1 (rw z f)

  own_no_clock : (l : DeckSignal) → IsSignal w.shape l → IsClockPort w.roles (w.net (own l)) → ⊥
  own_no_clock (FromPin m) i z = omega (arith, ((w.deck).ports).numbers (Pin m) i, z.1)
  own_no_clock (FromLatch j) i z = omega (arith, part_free w (Slave j) Top i, z.1)

  gate_no_clock : (g : Gate) → IsGate w.shape g → IsClockPort w.roles (w.net (gate_net g)) → ⊥
  gate_no_clock (Plus l) i z = own_no_clock l i z
  gate_no_clock (Minus l) i z = omega (arith, part_free w (Complement l) Top i, z.1)
  gate_no_clock (FromOutput k) i z = omega (arith, part_free w (Output k) Top i, z.1)
  gate_no_clock (FromDynamic k) i z = omega (arith, part_free w (Dynamic (left_side k)) Top (left_stage i.0, left_is w.shape k i.0 i.1), z.1)
  gate_no_clock High i z = omega (arith, ((w.deck).ports).numbers Vdd tt, z.0)
  gate_no_clock Low i z = low (((w.deck).ports).numbers Vss tt) z.0
    where
      low : w.net Vss ≡ 1 → 2 ≤ w.net Vss → ⊥
      low e l = omega (arith, e, l)

  -- what gates a latch's cards is no clock
  latch_no_clock : (j : ℕ) (b : Latch) (a : Net) (x : NamedDevice Net) → IsNet w.shape a → ByGate j b a x → IsClockPort w.roles (w.net a) → ⊥
  latch_no_clock j b Lm x n h z = omega (arith, ((w.deck).ports).numbers Lm tt, z.1)
  latch_no_clock j b Lmb x n h z = omega (arith, ((w.deck).ports).numbers Lmb tt, z.1)
  latch_no_clock j b Ls x n h z = omega (arith, ((w.deck).ports).numbers Ls tt, z.1)
  latch_no_clock j b Lsb x n h z = omega (arith, ((w.deck).ports).numbers Lsb tt, z.1)
  latch_no_clock j b Rs x n h z = omega (arith, ((w.deck).ports).numbers Rs tt, z.1)
  latch_no_clock j b Rsb x n h z = omega (arith, ((w.deck).ports).numbers Rsb tt, z.1)
  latch_no_clock j b (At (Next i) Top) x n h z = omega (arith, part_free w (Next i) Top n, z.1)
  latch_no_clock j b (At (Master i) Top) x n h z = omega (arith, part_free w (Master i) Top n, z.1)
  latch_no_clock j b a x n h z = absurd h

  -- and they are no keepers
  latch_no_keeper : (j : ℕ) (b : Latch) (a : Net) (x : NamedDevice Net) → ByGate j b a x → x.kind ≡ Keep → ⊥
  latch_no_keeper j b Lm x h k = not_keep_n (sym (ap (λ (y : NamedDevice Net). y.kind) h) ∙ k)
  latch_no_keeper j b Lmb x h k = not_keep_p (sym (ap (λ (y : NamedDevice Net). y.kind) h) ∙ k)
  latch_no_keeper j b Ls x h k = not_keep_n (sym (ap (λ (y : NamedDevice Net). y.kind) h) ∙ k)
  latch_no_keeper j b Lsb x h k = not_keep_p (sym (ap (λ (y : NamedDevice Net). y.kind) h) ∙ k)
  latch_no_keeper j b Rs x h k = not_keep_n (sym (ap (λ (y : NamedDevice Net). y.kind) h.1) ∙ k)
  latch_no_keeper j b Rsb x h k = not_keep_p (sym (ap (λ (y : NamedDevice Net). y.kind) h.1) ∙ k)
  latch_no_keeper j b (At (Next i) Top) x (e, inl h) k = not_keep_p (sym (ap (λ (y : NamedDevice Net). y.kind) h) ∙ k)
  latch_no_keeper j b (At (Next i) Top) x (e, inr h) k = not_keep_n (sym (ap (λ (y : NamedDevice Net). y.kind) h) ∙ k)
  latch_no_keeper j b (At (Master i) Top) x (e, inl h) k = not_keep_p (sym (ap (λ (y : NamedDevice Net). y.kind) h) ∙ k)
  latch_no_keeper j b (At (Master i) Top) x (e, inr h) k = not_keep_n (sym (ap (λ (y : NamedDevice Net). y.kind) h) ∙ k)
  latch_no_keeper j b a x h k = absurd h

  -- the dynamic nets are those of the cells
  pub dynamic_is : (n : ℕ) → IsDynamic (devices w) w.roles n → (k : ℕ) × (cell : DominoCell) × IsCellAt w.shape k cell × (n ≡ w.net (At (Dynamic (left_side k)) Top))
  dynamic_is n (free, p, d, at, how) =
      let h = carded w p d at in
      by h (facts w h.index h.card h.at).class how
    where
      Says : Type 0
      Says = ((d.kind ≡ Keep) × EndsAt d n) ⊎ ((d.kind ≡ pch) × IsClockPort w.roles d.gate × Ends d n vdd_port)

      -- a card with the drain at n, where the source is a supply
      at_drain : (x : NamedDevice Net) → (x.source ≡ Vdd) ⊎ (x.source ≡ Vss) → IsTwin w.net d x → EndsAt d n → n ≡ w.net x.drain
      at_drain x v t u = elim (end_of d (w.net x.drain) (w.net x.source) n (twin_ends d (dev_of w.net x) t) u) [
        | inl z ↦ z
        | inr z ↦ absurd (elim v [ inl y ↦ low_source w Vdd tt (rw (sym (z ∙ ap w.net y)) free) | inr y ↦ low_source w Vss tt (rw (sym (z ∙ ap w.net y)) free) ])
      ]

      ends_there : ((d.kind ≡ Keep) × EndsAt d n) ⊎ ((d.kind ≡ pch) × IsClockPort w.roles d.gate × Ends d n vdd_port) → EndsAt d n
      ends_there (inl z) = z.1
      ends_there (inr z) = ends_at d n vdd_port z.2

      not_n : ((d.kind ≡ Keep) × EndsAt d n) ⊎ ((d.kind ≡ pch) × IsClockPort w.roles d.gate × Ends d n vdd_port) → d.kind ≡ nch → ⊥
      not_n (inl z) e = not_keep_n (sym e ∙ z.0)
      not_n (inr z) e = not_p_n (sym z.0 ∙ e)

      -- an inverter is no keeper, and no clock gates it
      not_inv : (x : NamedDevice Net) (out gate : Net) → IsInv out gate x → IsTwin w.net d x → ((IsClockPort w.roles (w.net gate)) → ⊥)
          → ((d.kind ≡ Keep) × EndsAt d n) ⊎ ((d.kind ≡ pch) × IsClockPort w.roles d.gate × Ends d n vdd_port) → ⊥
      not_inv x out gate (inr z) t away y = not_n y (twin_kind d (dev_of w.net x) t ∙ ap (λ (y : NamedDevice Net). y.kind) z)
      not_inv x out gate (inl z) t away (inl y) = not_keep_p (sym (twin_kind d (dev_of w.net x) t ∙ ap (λ (y : NamedDevice Net). y.kind) z) ∙ y.0)
      not_inv x out gate (inl z) t away (inr y) = away (subst (IsClockPort w.roles) (twin_gate d (dev_of w.net x) t ∙ ap (λ (y : NamedDevice Net). w.net y.gate) z) y.1)

      in_block : (k : ℕ) (cell : DominoCell) → IsCellAt w.shape k cell → (q : ℕ) (x : NamedDevice Net) → Role w k cell q x → IsTwin w.net d x
          → ((d.kind ≡ Keep) × EndsAt d n) ⊎ ((d.kind ≡ pch) × IsClockPort w.roles d.gate × Ends d n vdd_port) → n ≡ w.net (At (Dynamic (left_side k)) Top)
      in_block k cell i q x (is_precharge e z) t y = at_drain x (inl (ap (λ (y : NamedDevice Net). y.source) z)) t (ends_there y) ∙ ap (λ (y : NamedDevice Net). w.net y.drain) z
      in_block k cell i q x (is_keeper e z) t y = at_drain x (inl (ap (λ (y : NamedDevice Net). y.source) z)) t (ends_there y) ∙ ap (λ (y : NamedDevice Net). w.net y.drain) z
      in_block k cell i q x (is_tree j e z) t y = absurd (not_n y (twin_kind d (dev_of w.net x) t ∙ (AllByRecursion-contains (TreeCard w k cell) (tree_list k cell) x (tree_info w k cell i) (Contains-slice_get (tree_list k cell) j x z)).0))
      in_block k cell i q x (is_foot e z) t y = absurd (not_n y (twin_kind d (dev_of w.net x) t ∙ ap (λ (y : NamedDevice Net). y.kind) z))
      in_block k cell i q x (is_up e z) t y = absurd (not_inv x (At (Output k) Top) (At (Dynamic (left_side k)) Top) (inl z) t (λ c. omega (arith, part_free w (Dynamic (left_side k)) Top (left_stage cell, left_is w.shape k cell i), c.1)) y)
      in_block k cell i q x (is_down e z) t y = absurd (not_n y (twin_kind d (dev_of w.net x) t ∙ ap (λ (y : NamedDevice Net). y.kind) z))

      in_latch : (x : NamedDevice Net) → IsNet w.shape x.gate → IsLatchCard w x → IsTwin w.net d x → ((d.kind ≡ Keep) × EndsAt d n) ⊎ ((d.kind ≡ pch) × IsClockPort w.roles d.gate × Ends d n vdd_port) → ⊥
      in_latch x g c t (inl y) = latch_no_keeper c.0 c.1 x.gate x c.4 (sym (twin_kind d (dev_of w.net x) t) ∙ y.0)
      in_latch x g c t (inr y) = latch_no_clock c.0 c.1 x.gate x g c.4 (subst (IsClockPort w.roles) (twin_gate d (dev_of w.net x) t) y.1)

      by : (h : Carded w p d) → Class w h.card → ((d.kind ≡ Keep) × EndsAt d n) ⊎ ((d.kind ≡ pch) × IsClockPort w.roles d.gate × Ends d n vdd_port)
          → (k : ℕ) × (cell : DominoCell) × IsCellAt w.shape k cell × (n ≡ w.net (At (Dynamic (left_side k)) Top))
      by h (of_cell k cell i f) y =
          let q = (cell_place w k cell i).from h.index h.card h.at f in
          (k, cell, i, in_block k cell i q.0 h.card (role w k cell q.0 h.card q.2) h.twin y)
      by h (of_latch c) y = absurd (in_latch h.card (facts w h.index h.card h.at).gate_is c h.twin y)
      by h (of_complement l f z) y = absurd (not_inv h.card (At (Complement l) Top) (own l) z h.twin (own_no_clock l ((((w.deck).spelled).shape).complements_are l f)) y)
      by h (of_sink m g f z) y = absurd (not_inv h.card (At (Sink m) Top) (gate_net g) z h.twin (gate_no_clock g ((((w.deck).spelled).shape).outputs_are m g f)) y)
      by h (of_next j b f z) y = absurd (not_inv h.card (At (Next j) Top) (gate_net b.next) z h.twin (gate_no_clock b.next ((((w.deck).spelled).shape).nexts j b f)) y)

  -- latch outputs and latch data are those of the latches
  pub latch_output : (n : ℕ) → IsLatchOutput (devices w) w.roles n → (j : ℕ) × (b : Latch) × IsLatchAt w.shape j b × (n ≡ w.net (At (Slave j) Top))
  latch_output n z = let k = group_is w z.0 z.1 z.2 in (k.0, k.1, k.2, sym z.3 ∙ ap (λ (g : _). g.output) k.3)

  pub latch_data : (n : ℕ) → IsLatchData (devices w) w.roles n → (j : ℕ) × (b : Latch) × IsLatchAt w.shape j b × (n ≡ w.net (At (Next j) Top))
  latch_data n z = let k = group_is w z.0 z.1 z.2 in (k.0, k.1, k.2, sym z.3 ∙ ap (λ (g : _). g.data_net) k.3)

  pub is_data : (j : ℕ) (b : Latch) → IsLatchAt w.shape j b → IsLatchData (devices w) w.roles (w.net (At (Next j) Top))
  is_data j b i = (group_of w.net j b, (nine w j b i).places, own_group w j b i, refl)

  -- the net of a signal is a pin or a latch output
  pub own_input : (l : DeckSignal) → IsSignal w.shape l → IsPin w.roles (w.net (own l)) ⊎ IsLatchOutput (devices w) w.roles (w.net (own l))
  own_input (FromPin p) i = let e = ((w.deck).ports).numbers (Pin p) i in inl (omega (arith, e), omega (arith, e, i, ((w.deck).ports).pins_are))
  own_input (FromLatch j) i = inr (group_of w.net j i.0, (nine w j i.0 i.1).places, own_group w j i.0 i.1, refl)

  signal_of : (n : ℕ) → IsPin w.roles n ⊎ IsLatchOutput (devices w) w.roles n → (l : DeckSignal) × IsSignal w.shape l × (n ≡ w.net (own l))
  signal_of n (inl z) = pin (n - first_pin w.roles) (omega (arith, z.0, z.1, ((w.deck).ports).pins_are)) (omega (arith, z.0))
    where
      pin : (m : ℕ) → m < w.shape.pins → n ≡ first_pin w.roles + m → (l : DeckSignal) × IsSignal w.shape l × (n ≡ w.net (own l))
      pin m lt e = (FromPin m, lt, e ∙ sym (((w.deck).ports).numbers (Pin m) lt))
  signal_of n (inr z) = let k = latch_output n z in (FromLatch k.0, (k.1, k.2), k.3)

  one_signal : (l l' : DeckSignal) → own l ≡ own l' → l ≡ l'
  one_signal (FromPin a) (FromPin b) e = cc
  one_signal (FromLatch a) (FromLatch b) e = cc
  one_signal (FromPin a) (FromLatch b) e = absurd (cc)
  one_signal (FromLatch a) (FromPin b) e = absurd (cc)

  -- no latch card and no card of a cell is gated by a signal as an inverter is
  no_latch_gate : (l : DeckSignal) (j : ℕ) (b : Latch) (x : NamedDevice Net) → ByGate j b (own l) x → ⊥
  no_latch_gate (FromPin m) j b x h = h
  no_latch_gate (FromLatch m) j b x h = h

  own_no_dynamic : (l : DeckSignal) (k : ℕ) → own l ≡ At (Dynamic (left_side k)) Top → ⊥
  own_no_dynamic (FromPin m) k e = cc
  own_no_dynamic (FromLatch m) k e = cc

  own_clock_apart : (l : DeckSignal) (k : ℕ) → own l ≡ Clock k → ⊥
  own_clock_apart (FromPin m) k e = cc
  own_clock_apart (FromLatch m) k e = cc

  -- what may be a complement is one of the deck's
  pub may_be : (n i : ℕ) → MayBeComplement (devices w) w.roles n i → (l : DeckSignal) × HasComplement w.shape l × (n ≡ w.net (At (Complement l) Top)) × (i ≡ w.net (own l))
  may_be n i m =
      let v = m.inverts in
      let h = carded w v.up v.pull_up v.up_there in
      by h (facts w h.index h.card h.at).class
    where
      sig : (l : DeckSignal) × IsSignal w.shape l × (i ≡ w.net (own l))
      sig = signal_of i m.of_signal

      gate : (h : Carded w (m.inverts).up (m.inverts).pull_up) → own sig.0 ≡ (h.card).gate
      gate h =
          apart w (own sig.0) (h.card).gate (own_is_net w sig.0 sig.1).0 (facts w h.index h.card h.at).gate_is
          (sym sig.2 ∙ sym (m.inverts).up_is.1 ∙ twin_gate (m.inverts).pull_up (dev_of w.net h.card) h.twin)

      kind : (x : NamedDevice Net) → IsTwin w.net (m.inverts).pull_up x → pch ≡ x.kind
      kind x t = sym (m.inverts).up_is.0 ∙ twin_kind (m.inverts).pull_up (dev_of w.net x) t

      drain : (x : NamedDevice Net) → IsTwin w.net (m.inverts).pull_up x → IsFree w.roles (w.net x.drain) → n ≡ w.net x.drain
      drain x t f = elim (end_of (m.inverts).pull_up n vdd_port (w.net x.drain) (m.inverts).up_is.2 (ends_at (m.inverts).pull_up (w.net x.drain) (w.net x.source) (twin_ends (m.inverts).pull_up (dev_of w.net x) t))) [
        | inl z ↦ sym z
        | inr z ↦ absurd (low_source w Vdd tt (rw (((w.deck).ports).numbers Vdd tt ∙ sym z) f))
      ]

      in_block : (k : ℕ) (cell : DominoCell) → IsCellAt w.shape k cell → (q : ℕ) (h : Carded w (m.inverts).up (m.inverts).pull_up) → Role w k cell q h.card → ⊥
      in_block k cell c q h (is_precharge e z) = own_clock_apart sig.0 cell.clock (gate h ∙ ap (λ (y : NamedDevice Net). y.gate) z)
      in_block k cell c q h (is_keeper e z) = not_keep_p (kind h.card h.twin ∙ ap (λ (y : NamedDevice Net). y.kind) z)
      in_block k cell c q h (is_tree j e z) = not_p_n (kind h.card h.twin ∙ (AllByRecursion-contains (TreeCard w k cell) (tree_list k cell) h.card (tree_info w k cell c) (Contains-slice_get (tree_list k cell) j h.card z)).0)
      in_block k cell c q h (is_foot e z) = not_p_n (kind h.card h.twin ∙ ap (λ (y : NamedDevice Net). y.kind) z)
      in_block k cell c q h (is_up e z) = own_no_dynamic sig.0 k (gate h ∙ ap (λ (y : NamedDevice Net). y.gate) z)
      in_block k cell c q h (is_down e z) = not_p_n (kind h.card h.twin ∙ ap (λ (y : NamedDevice Net). y.kind) z)

      at_drain : (h : Carded w (m.inverts).up (m.inverts).pull_up) (out g : Net) → h.card ≡ record { kind = pch; drain = out; gate = g; source = Vdd } → n ≡ w.net out
      at_drain h out g z =
          let f = facts w h.index h.card h.at in
          drain h.card h.twin (drain_free h.card f.drain_is f.class) ∙ ap (λ (y : NamedDevice Net). w.net y.drain) z

      by : (h : Carded w (m.inverts).up (m.inverts).pull_up) → Class w h.card → (l : DeckSignal) × HasComplement w.shape l × (n ≡ w.net (At (Complement l) Top)) × (i ≡ w.net (own l))
      by h (of_cell k cell c f) = let q = (cell_place w k cell c).from h.index h.card h.at f in absurd (in_block k cell c q.0 h (role w k cell q.0 h.card q.2))
      by h (of_latch c) = absurd (no_latch_gate sig.0 c.0 c.1 h.card (subst (λ a. ByGate c.0 c.1 a h.card) (sym (gate h)) c.4))
      by h (of_complement l f (inl z)) = (l, f, at_drain h (At (Complement l) Top) (own l) z, sig.2 ∙ ap w.net (gate h ∙ ap (λ (y : NamedDevice Net). y.gate) z))
      by h (of_complement l f (inr z)) = absurd (not_p_n (kind h.card h.twin ∙ ap (λ (y : NamedDevice Net). y.kind) z))
      by h (of_sink k g f (inl z)) = absurd (m.no_out (subst (IsOutPort w.roles) (sym (at_drain h (At (Sink k) Top) (gate_net g) z)) (out k g f)))
        where
          out : (k : ℕ) (g : Gate) → IsOutputAt w.shape k g → IsOutPort w.roles (w.net (At (Sink k) Top))
          out k g f = (omega (arith, (w.deck).outputs k g f), omega (arith, (w.deck).outputs k g f, slice_get_within w.shape.outputs k g f, (w.deck).outs_are))
      by h (of_sink k g f (inr z)) = absurd (not_p_n (kind h.card h.twin ∙ ap (λ (y : NamedDevice Net). y.kind) z))
      by h (of_next j b f (inl z)) = absurd (m.no_data (subst (IsLatchData (devices w) w.roles) (sym (at_drain h (At (Next j) Top) (gate_net b.next) z)) (is_data j b f)))
      by h (of_next j b f (inr z)) = absurd (not_p_n (kind h.card h.twin ∙ ap (λ (y : NamedDevice Net). y.kind) z))

  pub is_complement : (l : DeckSignal) → HasComplement w.shape l → IsComplement (devices w) w.roles (w.net (At (Complement l) Top)) (w.net (own l))
  is_complement l h = (
    record {
      inverts = complement_inverts w l h;
      no_out = part_no_out w (Complement l) Top h (λ m e. cc);
      no_data = λ z. let k = latch_data (w.net (At (Complement l) Top)) z in no_next k.0 (apart w (At (Complement l) Top) (At (Next k.0) Top) h (k.1, k.2) k.3);
      of_signal = own_input l ((((w.deck).spelled).shape).complements_are l h);
    },
    (λ m lt b.
        let z = may_be m (w.net (own l)) b in
        let i = (((w.deck).spelled).shape).complements_are l h in
        let j = (((w.deck).spelled).shape).complements_are z.0 z.1 in
        let same : l ≡ z.0 = one_signal l z.0 (apart w (own l) (own z.0) (own_is_net w l i).0 (own_is_net w z.0 j).0 z.3) in
        less m (w.net (At (Complement l) Top)) lt (z.2 ∙ ap (λ k. w.net (At (Complement k) Top)) (sym same))),
  )
    where
      less : (a b : ℕ) → a < b → a ≡ b → ⊥
      less a b l e = omega (arith, l, e)

      no_next : (j : ℕ) → At (Complement l) Top ≡ At (Next j) Top → ⊥
      no_next j e = cc

  pub top_dynamic : (k : ℕ) (cell : DominoCell) → IsCellAt w.shape k cell → IsDynamic (devices w) w.roles (w.net (At (Dynamic (left_side k)) Top))
  top_dynamic k cell i =
      let f = front w k cell i in
      (part_free w (Dynamic (left_side k)) Top (left_stage cell, left_is w.shape k cell i), f.keeper, f.keeper_device, f.keeper_there, inl (f.keeper_is.0, ends_at f.keeper_device (w.net (At (Dynamic (left_side k)) Top)) vdd_port f.keeper_is.2))

  pub cell_output : (k : ℕ) (cell : DominoCell) → IsCellAt w.shape k cell → IsCellOutput (devices w) w.roles (w.net (At (Output k) Top))
  cell_output k cell i =
      let f = front w k cell i in
      (w.net (At (Dynamic (left_side k)) Top), top_dynamic k cell i, (f.keeper, f.keeper_device, f.keeper_there, f.keeper_is.0, ends_at f.keeper_device (w.net (At (Dynamic (left_side k)) Top)) vdd_port f.keeper_is.2, f.keeper_is.1))

  pub sink_input : (g : Gate) → IsGate w.shape g → IsSinkInput (devices w) w.roles (w.net (gate_net g))
  sink_input (Plus l) i = elim (own_input l i) [ inl z ↦ inr (inr (inl z)) | inr z ↦ inr (inr (inr (inl z))) ]
  sink_input (Minus l) i = inr (inr (inr (inr (inl (w.net (own l), is_complement l i)))))
  sink_input (FromOutput k) i = inr (inl (cell_output k i.0 i.1))
  sink_input (FromDynamic k) i = inl (top_dynamic k i.0 i.1)
  sink_input High i = inr (inr (inr (inr (inr (inl (((w.deck).ports).numbers Vdd tt))))))
  sink_input Low i = inr (inr (inr (inr (inr (inr (((w.deck).ports).numbers Vss tt))))))
