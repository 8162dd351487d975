-- What an event of a net does to the complements, the latches and the sinks of a deck, where its gates are known.
use Rattle.std.specs.Prelude.{◌⊎◌}
use Rattle.std.proofs.Common.{Bool, List, [], inl, inr, refl, sym, ℕ, ◌∙◌, ◌≡◌}
use Rattle.dom_base.specs.Tri.{opposite}
use Rattle.dom_base.specs.declared.tri.Tri.{Tri}
use Rattle.dom_base.specs.declared.tri.Tri.TheVariants.{One, Unknown, Zero}
use Rattle.deck.specs.Switches.{value_of}
use Rattle.deck.specs.declared.device.Device.{Device}
use Rattle.sp_network.specs.Known.{IsKnown}
use Rattle.domino_cell.specs.Stage.{IsStage, Spot, Top}
use Rattle.dom_base.proofs.Decided.{dec_nat}
use Rattle.port_runs.specs.Environment.{Capture, Captured, Launch, Launched, Place, Precharge, Reset, bit}
use Rattle.domino_law.specs.Branches.{static_branches}
use Rattle.domino_law.specs.Honest.{AtCapture, IsHonestFrame, IsMasterAt, IsSlaveAt, static_value}
use Rattle.domino_law.specs.LooseDeck.{HoldsDeck}
use Rattle.domino_law.specs.Nets.{At, Complement, FromLatch, FromPin, Lm, Lmb, Ls, Lsb, Master, Net, Next, Pin, Rs, Rsb, DeckSignal, Sink, Slave, Vdd, Vss, own}
use Rattle.domino_law.specs.Places.{lm_at, ls_at, rs_at, ClockState}
use Rattle.domino_law.specs.Shape.{HasComplement, IsLatchAt, IsSignal, Latch, Shape, gate_tree}
use Rattle.domino_law.proofs.DeckParts.{AreKnownGates, complement_is, master_is, next_is, opposite-known, opposite_twice, own-known, sink_is, slave_is, value-known}
use Rattle.domino_law.proofs.NetEvents.{NextEvent, after_next, kept_at, moved_to, now_at, source_kept, stays_at_target}
use Rattle.domino_law.proofs.Parts.{clocked_target, master_held, slave_held, slave_open, slave_reset, static_target}
use Rattle.domino_law.proofs.Places.{IsCap, bit-known, cap_opposed, from_capture, if_capture, master_after, opposed_after, slave_after}
use Rattle.sp_network.specs.Tree.{Leaf, Tree}

module _ {devices : List Device} {is_source : ℕ → Bool} {net : Net → ℕ} {s : Shape} (deck : HoldsDeck devices is_source net s)
    {place : Place} {up : ℕ → ClockState} {old new pins : ℕ → Bool} {keeps_at : ℕ → Tri} {before : List Tri}
    (frame : IsHonestFrame net s place up old new pins keeps_at before)
    (event : NextEvent devices is_source before) where
  -- latches
  pub slave_stays : (j : ℕ) (b : Latch) → IsLatchAt s j b → ls_at place ≡ Zero → value_of (after_next event) (net (At (Slave j) Top)) ≡ value_of before (net (At (Slave j) Top))
  slave_stays j b e z = go (rs_at place) refl
    where
      is_reset : (pl : Place) → rs_at pl ≡ One → pl ≡ Reset
      is_reset Reset w = refl
      is_reset _ w = absurd (cc)

      shut_at : (pl : Place) (w : Tri) → pl ≡ Reset → IsSlaveAt pl (bit (old j)) (bit (new j)) w → w ≡ bit (old j)
      shut_at Reset w p q = q
      shut_at Launch w p q = absurd (cc)
      shut_at Launched w p q = absurd (cc)
      shut_at _ w p q = q

      go : (r : Tri) → rs_at place ≡ r → value_of (after_next event) (net (At (Slave j) Top)) ≡ value_of before (net (At (Slave j) Top))
      go Zero r =
          stays_at_target event (net (At (Slave j) Top)) (value_of before (net (At (Slave j) Top))) refl (slave_held devices is_source net before (frame.sources Vdd tt) (frame.sources Vss tt) (λ a. net (At (Slave j) a)) (At (Master j) Top) b.init (slave_is deck j b e)
          ((frame.sources Lsb tt) ∙ rw z refl) ((frame.sources Ls tt) ∙ z) ((frame.sources Rs tt) ∙ r) ((frame.sources Rsb tt) ∙ rw r refl))
      go One r =
          let own_value : value_of before (net (At (Slave j) Top)) ≡ bit b.init = shut_at place _ (is_reset place r) (frame.slaves j b e) ∙ rw (frame.started (is_reset place r) j b e) refl in
          let t = slave_reset devices is_source net before (frame.sources Vdd tt) (frame.sources Vss tt) (λ a. net (At (Slave j) a)) (At (Master j) Top) b.init (slave_is deck j b e)
          ((frame.sources Lsb tt) ∙ rw z refl) ((frame.sources Ls tt) ∙ z) ((frame.sources Rs tt) ∙ r) ((frame.sources Rsb tt) ∙ rw r refl) in
          stays_at_target event (net (At (Slave j) Top)) (bit b.init) own_value t
      go Unknown r = absurd (no place r)
        where
          no : (pl : Place) → rs_at pl ≡ Unknown → ⊥
          no Reset w = cc
          no _ w = cc

  pub leaf_stays : (l : DeckSignal) → IsSignal s l → ls_at place ≡ Zero → value_of (after_next event) (net (own l)) ≡ value_of before (net (own l))
  leaf_stays (FromPin p) a z = source_kept event (net (Pin p)) (deck.sources (Pin p) a)
  leaf_stays (FromLatch j) a z = slave_stays j a.0 a.1 z

  -- what a static gate's net moves to
  pub inverted : (at : Spot → ℕ) (t : Tree Net) → IsStage devices is_source at (static_branches net t) → IsKnown (static_value net before t) → at Top ≡ event.net → event.value ≡ opposite (static_value net before t)
  inverted at t is g e = moved_to event (at Top) (opposite (static_value net before t)) e (static_target devices is_source net before (frame.sources Vdd tt) (frame.sources Vss tt) at t is g)

  pub inverter_known : (at : Spot → ℕ) (gate : Tree Net) → IsStage devices is_source at (static_branches net gate) → IsKnown (static_value net before gate) → IsKnown (value_of before (at Top)) → IsKnown (value_of (after_next event) (at Top))
  inverter_known at gate is g o =
      elim (dec_nat (at Top) event.net) [
        | inl m ↦ rw (now_at event (at Top) m ∙ inverted at gate is g m) (opposite-known _ g)
        | inr a ↦ rw (kept_at event (at Top) a) o
      ]

  pub inverter_stays : (at : Spot → ℕ) (gate : Tree Net) → IsStage devices is_source at (static_branches net gate) → IsKnown (static_value net before gate) → value_of before (at Top) ≡ opposite (static_value net before gate)
      → value_of (after_next event) (at Top) ≡ value_of before (at Top)
  inverter_stays at gate is g o = stays_at_target event (at Top) (opposite (static_value net before gate)) o (static_target devices is_source net before (frame.sources Vdd tt) (frame.sources Vss tt) at gate is g)

  pub master_stays : (j : ℕ) (b : Latch) → IsLatchAt s j b → lm_at place ≡ Zero → value_of (after_next event) (net (At (Master j) Top)) ≡ value_of before (net (At (Master j) Top))
  master_stays j b e z =
      stays_at_target event (net (At (Master j) Top)) (value_of before (net (At (Master j) Top))) refl
      (master_held devices is_source net before (frame.sources Vdd tt) (frame.sources Vss tt) (λ a. net (At (Master j) a)) (At (Next j) Top) (master_is deck j b e) ((frame.sources Lmb tt) ∙ rw z refl) ((frame.sources Lm tt) ∙ z))

  -- in capture a master may take the opposite of its latch input
  pub master_moves : (j : ℕ) (b : Latch) → IsLatchAt s j b → place ≡ Capture
      → (value_of (after_next event) (net (At (Master j) Top)) ≡ value_of before (net (At (Master j) Top))) ⊎ (value_of (after_next event) (net (At (Master j) Top)) ≡ opposite (bit (new j)))
  master_moves j b e pl =
      elim (dec_nat (net (At (Master j) Top)) event.net) [
        | inl m ↦ inr (now_at event (net (At (Master j) Top)) m
            ∙ (moved_to event (net (At (Master j) Top)) (opposite (value_of before (net (At (Next j) Top)))) m
            (clocked_target devices is_source net before (frame.sources Vdd tt) (frame.sources Vss tt) (λ a. net (At (Master j) a)) Lmb Lm (At (Next j) Top) [] (master_is deck j b e) ((frame.sources Lmb tt) ∙ rw pl refl) ((frame.sources Lm tt) ∙ rw pl refl) tt (frame.nexts j b e))
            ∙ rw (at_capture place pl (frame.next_is j b e)) refl))
        | inr a ↦ inl (kept_at event (net (At (Master j) Top)) a)
      ]
    where
      at_capture : (pl : Place) → pl ≡ Capture → AtCapture pl (value_of before (net (At (Next j) Top)) ≡ bit (new j)) → value_of before (net (At (Next j) Top)) ≡ bit (new j)
      at_capture Capture z f = f
      at_capture Captured z f = f
      at_capture _ z f = absurd (cc)

  -- in launch a slave may take the next state
  pub slave_moves : (j : ℕ) (b : Latch) → IsLatchAt s j b → place ≡ Launch
      → (value_of (after_next event) (net (At (Slave j) Top)) ≡ value_of before (net (At (Slave j) Top))) ⊎ (value_of (after_next event) (net (At (Slave j) Top)) ≡ bit (new j))
  slave_moves j b e pl =
      let m : value_of before (net (At (Master j) Top)) ≡ opposite (bit (new j)) = at_launch place _ pl (frame.masters j b e) in
      elim (dec_nat (net (At (Slave j) Top)) event.net) [
        | inl q ↦ inr (now_at event (net (At (Slave j) Top)) q
            ∙ (moved_to event (net (At (Slave j) Top)) (opposite (value_of before (net (At (Master j) Top)))) q
            (slave_open devices is_source net before (frame.sources Vdd tt) (frame.sources Vss tt) (λ a. net (At (Slave j) a)) (At (Master j) Top) b.init (slave_is deck j b e)
            ((frame.sources Lsb tt) ∙ rw pl refl) ((frame.sources Ls tt) ∙ rw pl refl) ((frame.sources Rs tt) ∙ rw pl refl) ((frame.sources Rsb tt) ∙ rw pl refl) (rw m (opposite-known _ (bit-known (new j)))))
            ∙ (rw m (opposite_twice (new j)))))
        | inr a ↦ inl (kept_at event (net (At (Slave j) Top)) a)
      ]
    where
      at_launch : (pl : Place) (w : Tri) → pl ≡ Launch → IsMasterAt pl (keeps_at j) (bit (new j)) w → w ≡ opposite (bit (new j))
      at_launch Launch w z f = f
      at_launch Launched w z f = f
      at_launch Captured w z f = f
      at_launch Precharge w z f = f
      at_launch _ w z f = absurd (cc)

  pub complement_stays : IsCap place → (l : DeckSignal) → HasComplement s l → value_of (after_next event) (net (At (Complement l) Top)) ≡ value_of before (net (At (Complement l) Top))
  complement_stays cap l a =
      inverter_stays (λ b. net (At (Complement l) b)) (Leaf (own l)) (complement_is deck l a) (own-known deck frame l ((deck.shape).complements_are l a)) (cap_opposed place _ _ cap (frame.opposed l a))

  complement_after : (l : DeckSignal) → HasComplement s l → IsKnown (value_of (after_next event) (net (At (Complement l) Top)))
  complement_after l a =
      inverter_known (λ b. net (At (Complement l) b)) (Leaf (own l)) (complement_is deck l a)
      (own-known deck frame l ((deck.shape).complements_are l a)) (frame.complements l a)

  -- the frame stays honest where the gates are known, and the latch inputs keep their values in capture and captured
  pub frame_after : AreKnownGates net s before
      → (IsCap place → (j : ℕ) (b : Latch) → IsLatchAt s j b → value_of (after_next event) (net (At (Next j) Top)) ≡ value_of before (net (At (Next j) Top)))
      → IsHonestFrame net s place up old new pins keeps_at (after_next event)
  frame_after gates read =
      record {
        sources = λ a i. source_kept event (net a) (deck.sources a i) ∙ frame.sources a i;
        clocks = frame.clocks;
        complements = complement_after;
        opposed = λ l a. opposed_after place _ _ _ _
            (λ z o. inverter_stays (λ b. net (At (Complement l) b)) (Leaf (own l)) (complement_is deck l a)
            (own-known deck frame l ((deck.shape).complements_are l a)) o
            ∙ (o ∙ sym (rw (leaf_stays l ((deck.shape).complements_are l a) z) refl)))
            (complement_after l a) (frame.opposed l a);
        slaves = λ j b e. slave_after place _ _ _ _ (slave_stays j b e) (slave_moves j b e) (frame.slaves j b e);
        masters = λ j b e. master_after place _ _ _ _ (master_stays j b e) (master_moves j b e) (frame.masters j b e);
        started = frame.started;
        nexts = λ j b e. inverter_known (λ a. net (At (Next j) a)) (gate_tree s b.next) (next_is deck j b e) (value-known net s before gates b.next ((deck.shape).nexts j b e)) (frame.nexts j b e);
        next_is = λ j b e. if_capture place _ (λ cap. read cap j b e ∙ from_capture place _ cap (frame.next_is j b e));
        outputs = λ i g e. inverter_known (λ b. net (At (Sink i) b)) (gate_tree s g) (sink_is deck i g e) (value-known net s before gates g ((deck.shape).outputs_are i g e)) (frame.outputs i g e);
      }
