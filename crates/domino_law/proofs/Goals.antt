-- Each event of a net that gates a device gives it its last value, and keeps the static gates in step.
use Rattle.std.specs.Prelude.{◌⊎◌}
use Rattle.std.proofs.Common.{Bool, List, inl, inr, refl, sym, ℕ, ◌<◌, ◌∙◌, ◌≡◌, ap}
use Rattle.dom_base.specs.Tri.{opposite}
use Rattle.dom_base.specs.declared.tri.Tri.{Tri}
use Rattle.dom_base.specs.declared.tri.Tri.TheVariants.{One, Zero}
use Rattle.deck.specs.Switches.{value_of}
use Rattle.deck.specs.declared.device.Device.{Device}
use Rattle.sp_network.specs.Known.{IsKnown}
use Rattle.domino_cell.specs.Stage.{IsStage, Spot, Top}
use Rattle.dom_base.proofs.Decided.{dec_nat}
use Rattle.port_runs.specs.Environment.{Capture, Captured, Evaluation, Launch, Place, bit}
use Rattle.domino_law.specs.Branches.{static_branches}
use Rattle.domino_law.specs.Honest.{IsHonest, IsHonestFrame, static_value}
use Rattle.domino_law.specs.LooseDeck.{HoldsDeck}
use Rattle.domino_law.specs.Nets.{At, Complement, Dynamic, FromDynamic, FromLatch, FromOutput, FromPin, Gate, High, Low, Master, Minus, Net, Next, Output, Pin, Plus, DeckSignal, Sink, Slave, Vdd, Vss, own, Clock, CellSide, left_side}
use Rattle.domino_law.specs.Shape.{DominoCell, HasComplement, IsCellAt, IsGate, IsLatchAt, IsSignal, Latch, Shape, DynamicStage, IsSideAt, dynamic_nets, gate_tree}
use Rattle.domino_law.proofs.DeckParts.{AreKnownGates, clock-known, clocks_at, complement_is, dynamic_is, gate-known, next_is, output_is, own-known, sink_is, zero_or_one, up_of, series-known, value-known}
use Rattle.domino_law.proofs.Events.{dynamic_falls, output_rises, held_side}
use Rattle.domino_law.proofs.EventsHonest.{dynamic_stays, output_stays}
use Rattle.domino_law.proofs.FrameEvents.{inverted, master_moves, master_stays, slave_moves, slave_stays}
use Rattle.domino_law.proofs.Lags.{IsInStep, IsLag, dynamic_goal, gate_goal, own_goal, slave_goal, goal-known}
use Rattle.domino_law.proofs.NetEvents.{NextEvent, after_next, kept_at, moved_to, no_event, not_still, now_at, source_kept}
use Rattle.domino_law.proofs.Parts.{precharges}
use Rattle.domino_law.proofs.Places.{IsCap, IsClockAt}
use Rattle.domino_law.specs.Places.{ClockState, AfterFall}
use Rattle.domino_law.proofs.ClockOrder.{dec_previous}
use Rattle.sp_network.specs.Tree.{EachLeaf, Leaf, Tree}
use Rattle.domino_law.proofs.Leaves.{EachLeaf-weaker}
use Rattle.domino_law.proofs.Statics.{each_dynamic, left_is, tree_moves}

module _ {devices : List Device} {is_source : ℕ → Bool} {net : Net → ℕ} {s : Shape} (deck : HoldsDeck devices is_source net s)
    {place : Place} {up : ℕ → ClockState} {old new pins : ℕ → Bool} {keeps_at : ℕ → Tri} {before : List Tri}
    (frame : IsHonestFrame net s place up old new pins keeps_at before)
    (event : NextEvent devices is_source before) (lag : IsInStep net s place up old new pins before) where
  pub slave_event : (j : ℕ) (b : Latch) → IsLatchAt s j b → net (At (Slave j) Top) ≡ event.net → event.value ≡ slave_goal place (bit (old j)) (bit (new j))
  slave_event j b e m = go place refl
    where
      go : (pl : Place) → place ≡ pl → event.value ≡ slave_goal pl (bit (old j)) (bit (new j))
      go Launch z = elim (slave_moves deck frame event j b e z) [ inl w ↦ absurd (no_event event _ m w) | inr w ↦ sym (now_at event _ m) ∙ w ]
      go _ z = absurd (no_event event _ m (slave_stays deck frame event j b e (rw z refl)))

  pub own_event : (l : DeckSignal) → IsSignal s l → net (own l) ≡ event.net → event.value ≡ own_goal place old new pins l
  own_event (FromPin p) a m = absurd (no_event event _ m (source_kept event (net (Pin p)) (deck.sources (Pin p) a)))
  own_event (FromLatch j) a m = slave_event j a.0 a.1 m

  -- a static gate's event, where it may lag
  pub lag_event : (at : Spot → ℕ) (t : Tree Net) (goal : Tri) → IsStage devices is_source at (static_branches net t) → IsKnown (static_value net before t) → IsLag net before goal t (at Top) → at Top ≡ event.net → event.value ≡ opposite goal
  lag_event at t goal is k (inl e) m = inverted deck frame event at t is k m ∙ rw e refl
  lag_event at t goal is k (inr e) m = absurd (not_still event (at Top) m (e ∙ sym (inverted deck frame event at t is k m)))

  pub complement_event : (l : DeckSignal) → HasComplement s l → net (At (Complement l) Top) ≡ event.net → event.value ≡ opposite (own_goal place old new pins l)
  complement_event l a m = lag_event (λ b. net (At (Complement l) b)) (Leaf (own l)) (own_goal place old new pins l) (complement_is deck l a) (own-known deck frame l ((deck.shape).complements_are l a)) (lag.complements l a) m

  pub master_event : (j : ℕ) (b : Latch) → IsLatchAt s j b → net (At (Master j) Top) ≡ event.net → event.value ≡ opposite (bit (new j))
  master_event j b e m = go place refl
    where
      go : (pl : Place) → place ≡ pl → event.value ≡ opposite (bit (new j))
      go Capture z = elim (master_moves deck frame event j b e z) [ inl w ↦ absurd (no_event event _ m w) | inr w ↦ sym (now_at event _ m) ∙ w ]
      go _ z = absurd (no_event event _ m (master_stays deck frame event j b e (rw z refl)))

  -- an event takes nets to their last value, or leaves theirs
  abbrev pub Moves : Tri → Tree Net → Type 0
  Moves goal t = (static_value net (after_next event) t ≡ goal) ⊎ (static_value net (after_next event) t ≡ static_value net before t)

  pub tree_event : (goal : Tri) → IsKnown goal → (t : Tree Net) → EachLeaf (λ a. IsKnown (value_of before (net a))) t → EachLeaf (λ a. net a ≡ event.net → event.value ≡ goal) t → Moves goal t
  tree_event goal k t known f =
      tree_moves (λ a. value_of before (net a)) (λ a. value_of (after_next event) (net a)) goal k t known
      (EachLeaf-weaker _ (λ a. (value_of (after_next event) (net a) ≡ goal) ⊎ (value_of (after_next event) (net a) ≡ value_of before (net a)))
      (λ a f. elim (dec_nat (net a) event.net) [ inl m ↦ inl (now_at event (net a) m ∙ f m) | inr ne ↦ inr (kept_at event (net a) ne) ]) t f)

  lag_after : (at : Spot → ℕ) (t : Tree Net) (goal : Tri) → IsStage devices is_source at (static_branches net t) → IsKnown (static_value net before t) → Moves goal t
      → IsLag net before goal t (at Top) → IsLag net (after_next event) goal t (at Top)
  lag_after at t goal is k (inl m) l = inl m
  lag_after at t goal is k (inr m) l =
      elim (dec_nat (at Top) event.net) [
        | inl i ↦ inr (now_at event (at Top) i ∙ (inverted deck frame event at t is k i ∙ sym (rw m refl)))
        | inr b ↦ elim l [ inl e ↦ inl (m ∙ e) | inr e ↦ inr (kept_at event (at Top) b ∙ (e ∙ sym (rw m refl))) ]
      ]

  -- the static gates stay in step where the gates are known, and an event gives a gate its goal or leaves its value
  pub frame_in_step : AreKnownGates net s before → ((g : Gate) → IsGate s g → Moves (gate_goal s place up old new pins g) (gate_tree s g))
      → IsInStep net s place up old new pins (after_next event)
  frame_in_step gates move =
      record {
        complements = λ l a. lag_after (λ b. net (At (Complement l) b)) (Leaf (own l)) (own_goal place old new pins l) (complement_is deck l a)
            (gates (Plus l) ((deck.shape).complements_are l a)) (move (Plus l) ((deck.shape).complements_are l a)) (lag.complements l a);
        nexts = λ j b e. lag_after (λ a. net (At (Next j) a)) (gate_tree s b.next) (gate_goal s place up old new pins b.next) (next_is deck j b e)
            (value-known net s before gates b.next ((deck.shape).nexts j b e)) (move b.next ((deck.shape).nexts j b e)) (lag.nexts j b e);
        outputs = λ i g e. lag_after (λ a. net (At (Sink i) a)) (gate_tree s g) (gate_goal s place up old new pins g) (sink_is deck i g e)
            (value-known net s before gates g ((deck.shape).outputs_are i g e)) (move g ((deck.shape).outputs_are i g e)) (lag.outputs i g e);
      }

module _ {devices : List Device} {is_source : ℕ → Bool} {net : Net → ℕ} {s : Shape} (deck : HoldsDeck devices is_source net s)
    {place : Place} {up : ℕ → ClockState} {old new pins : ℕ → Bool} {keeps_at : ℕ → Tri} {before : List Tri} (h : IsHonest devices is_source net s place up old new pins keeps_at before)
    (event : NextEvent devices is_source before) (lag : IsInStep net s place up old new pins before) where
  pub clock_place : (pl : Place) (w : Tri) → IsClockAt pl w → w ≡ One → (pl ≡ Evaluation) ⊎ IsCap pl
  clock_place Evaluation w h e = inl refl
  clock_place Capture w h e = inr tt
  clock_place Captured w h e = inr tt
  clock_place _ w h e = absurd (zero_or_one (sym h ∙ e))

  goal_fallen : (pl : Place) → dynamic_goal pl AfterFall ≡ One
  goal_fallen Evaluation = refl
  goal_fallen _ = refl

  goal_up : (i : ℕ) → i < s.clocks → value_of before (net (Clock i)) ≡ One → place ≡ Evaluation → dynamic_goal place (up i) ≡ Zero
  goal_up i l on z = rw (z, up_of deck h.frame i l on) refl

  pub dynamic_event : (k : CellSide) (c : DynamicStage) → IsSideAt s k c → net (At (Dynamic k) Top) ≡ event.net → event.value ≡ dynamic_goal place (up c.clock)
  dynamic_event k c e m =
      let l = (deck.shape).clocks_are k c e in
      elim (clock-known deck h.frame k c e) [
        | inr on ↦ elim (clock_place place _ (clocks_at deck h.frame c.clock l) on) [
          | inl z ↦ elim (dec_previous up c.clock) [
            | inl early ↦ absurd (no_event event _ m (held_side deck h event k c e on early).2)
            | inr free ↦ (dynamic_falls deck h event k c e on free m).1 ∙ sym (goal_up c.clock l on z)
          ]
          | inr cap ↦ absurd (no_event event _ m (dynamic_stays deck h event cap k c e))
        ]
        | inl off ↦
            let high : event.value ≡ One = moved_to event (net (At (Dynamic k) Top)) One m (precharges devices is_source net before (h.frame.sources Vdd tt) (h.frame.sources Vss tt) s.style (λ a. net (At (Dynamic k) a)) k c (dynamic_is deck k c e) off) in
            elim ((h.cells.sides k c e).spots_idle off Top tt) [
              | inl one ↦ absurd (not_still event _ m (one ∙ sym high))
              | inr p ↦ high ∙ sym (rw p (goal_fallen place))
            ]
      ]

  pub output_event : (k : ℕ) (c : DominoCell) → IsCellAt s k c → net (At (Output k) Top) ≡ event.net → event.value ≡ opposite (dynamic_goal place (up c.clock))
  output_event k c e m =
      let l = (deck.shape).clocks_are (left_side k) _ (left_is s k c e) in
      elim (clock-known deck h.frame (left_side k) _ (left_is s k c e)) [
        | inr on ↦ elim (clock_place place _ (clocks_at deck h.frame c.clock l) on) [
          | inl z ↦ (output_rises deck h event k c e on m).1 ∙ sym (rw (goal_up c.clock l on z) refl)
          | inr cap ↦ absurd (no_event event _ m (output_stays deck h event cap k c e))
        ]
        | inl off ↦
            let t : event.value ≡ opposite (static_value net before (dynamic_nets k c.right)) = inverted deck h.frame event (λ b. net (At (Output k) b)) (dynamic_nets k c.right) (output_is deck k c e) (series-known deck h k c e) m in
            elim ((h.cells.outs k c e).idle off) [
              | inl p ↦ absurd (not_still event _ m (p.1 ∙ sym (t ∙ rw p.0 refl)))
              | inr p ↦ elim (series-known deck h k c e) [
                | inl w ↦ absurd (not_still event _ m (p.2 w ∙ sym (t ∙ rw w refl)))
                | inr w ↦ let u : event.value ≡ Zero = t ∙ rw w refl in u ∙ sym (rw p.0 (ap opposite (goal_fallen place)))
              ]
            ]
      ]

  -- an event of a net of a gate gives it the gate's last value
  pub gate_event : (g : Gate) → IsGate s g → EachLeaf (λ a. net a ≡ event.net → event.value ≡ gate_goal s place up old new pins g) (gate_tree s g)
  gate_event (Plus l) a = own_event deck h.frame event lag l a
  gate_event (Minus l) a = complement_event deck h.frame event lag l a
  gate_event (FromOutput j) a = λ m. rw a.1 (output_event j a.0 a.1 m)
  gate_event (FromDynamic j) a = rw (a.1) (each_dynamic s (λ x. net x ≡ event.net → event.value ≡ dynamic_goal place (up (a.0).clock)) j a.0 a.1 (λ d z side i m. dynamic_event _ d i m ∙ ap (λ x. dynamic_goal place (up x)) z))
  gate_event High a = λ m. absurd (no_event event (net Vdd) m (source_kept event (net Vdd) (deck.sources Vdd tt)))
  gate_event Low a = λ m. absurd (no_event event (net Vss) m (source_kept event (net Vss) (deck.sources Vss tt)))

  gate_moves : (g : Gate) → IsGate s g → Moves deck h.frame event lag (gate_goal s place up old new pins g) (gate_tree s g)
  gate_moves g a =
      tree_event deck h.frame event lag (gate_goal s place up old new pins g) (goal-known s place up old new pins g) (gate_tree s g)
      (gate-known deck h g a) (gate_event g a)

  pub in_step_after : IsInStep net s place up old new pins (after_next event)
  in_step_after =
      frame_in_step deck h.frame event lag
      (gate-known deck h) gate_moves
