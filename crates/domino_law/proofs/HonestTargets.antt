-- In an honest state the driven nets are known, and in capture and captured those that are read hold their targets.
use Rattle.std.specs.Prelude.{◌⊎◌}
use Rattle.std.proofs.Common.{Bool, List, inl, inr, refl, ℕ, ◌∙◌, ◌≡◌, [], false, subst, sym, true}
use Rattle.dom_base.specs.Tri.{opposite}
use Rattle.dom_base.specs.declared.tri.Tri.{Tri}
use Rattle.dom_base.specs.declared.tri.Tri.TheVariants.{One, Zero}
use Rattle.deck.specs.Switches.{value_of}
use Rattle.deck.specs.declared.device.Device.{Device}
use Rattle.sp_network.specs.Known.{IsKnown}
use Rattle.domino_cell.specs.Stage.{IsStage, Top}
use Rattle.switch_model.specs.Targets.{IsTarget}
use Rattle.port_runs.specs.Environment.{Capture, Captured, Place}
use Rattle.domino_law.specs.Branches.{dynamic, static_branches}
use Rattle.domino_law.specs.Honest.{IsHonest, IsHonestFrame, cell_conduction, HasPreviousFallen, IsHeldCell, static_value}
use Rattle.domino_law.specs.Laws.{CapturedAtTargets, HonestIsKnown, IsDriven, IsCellOrSink}
use Rattle.domino_law.specs.LooseDeck.{HoldsDeck, IsPart}
use Rattle.domino_law.specs.Nets.{At, Clock, Complement, Dynamic, FromLatch, FromOutput, Master, Net, Next, Output, Part, Plus, Sink, Slave, Vdd, Vss, CellSide, left_side}
use Rattle.domino_law.specs.Shape.{Shape, DominoCell, IsCellAt, left_stage, DynamicStage, IsSideAt, dynamic_nets, gate_tree}
use Rattle.domino_cell.specs.declared.style.Style.TheVariants.{Keeper as WithKeeper}
use Rattle.domino_law.proofs.Cells.{spot_holds}
use Rattle.domino_law.proofs.DeckParts.{AreKnownGates, dynamic-known, dynamic_is, gate-known, known_leaves, known_tree, next_is, output_is, output_low, sink_is, spots_held, clock-known, previous_overlaps, up_of, series-known, value-known, are_simple}
use Rattle.domino_law.proofs.Parts.{evaluates, keeper_holds, precharges, static_target}
use Rattle.domino_law.proofs.Places.{IsCap, from_capture}
use Rattle.domino_law.specs.Places.{ClockState}
use Rattle.domino_law.proofs.ClockOrder.{dec_previous}
use Rattle.domino_law.proofs.KeptCells.{keeps_zero}
use Rattle.domino_law.specs.OwnRun.{own_bit}
use Rattle.domino_cell.specs.Tapped.{IsTapped}
use Rattle.switch_model.proofs.Targets.{target_exists}
use Rattle.sp_network.specs.Tree.{Tree}
use Rattle.domino_law.proofs.SimpleCells.{simple_side}
use Rattle.domino_law.proofs.Statics.{left_is}

pub as_value : (devices : List Device) (is_source : ℕ → Bool) (values : List Tri) (n : ℕ) (v w : Tri) → w ≡ v → IsTarget devices is_source values n v → IsTarget devices is_source values n w
as_value devices is_source values n v w e t = rw e t

module _ {devices : List Device} {is_source : ℕ → Bool} {net : Net → ℕ} {s : Shape} (deck : HoldsDeck devices is_source net s)
    {place : Place} {up : ℕ → ClockState} {old new pins : ℕ → Bool} {kept : ℕ → Tri} {values : List Tri} (frame : IsHonestFrame net s place up old new pins kept values) where
  -- where the gates are known
  pub driven-known : AreKnownGates net s values → ((k : CellSide) (c : DynamicStage) → IsSideAt s k c → IsKnown (value_of values (net (At (Dynamic k) Top)))) → (part : Part) → IsPart s part → IsDriven part → IsKnown (value_of values (net (At part Top)))
  driven-known gates dynamics (Dynamic k) a d = dynamics k a.0 a.1
  driven-known gates dynamics (Output k) a d = gates (FromOutput k) a
  driven-known gates dynamics (Complement l) a d = frame.complements l a
  driven-known gates dynamics (Master j) a d = absurd d
  driven-known gates dynamics (Slave j) a d = gates (Plus (FromLatch j)) a
  driven-known gates dynamics (Next j) a d = frame.nexts j a.0 a.1
  driven-known gates dynamics (Sink i) a d = frame.outputs i a.0 a.1

  static_holds : (part : Part) (gate : Tree Net) → IsStage devices is_source (λ a. net (At part a)) (static_branches net gate) → IsKnown (static_value net values gate)
      → value_of values (net (At part Top)) ≡ opposite (static_value net values gate) → IsTarget devices is_source values (net (At part Top)) (value_of values (net (At part Top)))
  static_holds part gate is k e =
      as_value devices is_source values (net (At part Top)) (opposite (static_value net values gate)) (value_of values (net (At part Top))) e
      (static_target devices is_source net values (frame.sources Vdd tt) (frame.sources Vss tt) (λ a. net (At part a)) gate is k)

module _ {devices : List Device} {is_source : ℕ → Bool} {net : Net → ℕ} {s : Shape} (deck : HoldsDeck devices is_source net s)
    {place : Place} {up : ℕ → ClockState} {old new pins : ℕ → Bool} {kept : ℕ → Tri} {values : List Tri} (h : IsHonest devices is_source net s place up old new pins kept values) where
  -- the dynamic net of a cell that holds is at its target
  pub held_target : (k : ℕ) (c : DominoCell) → IsCellAt s k c → value_of values (net (Clock c.clock)) ≡ One → HasPreviousFallen up c.clock
      → IsTarget devices is_source values (net (At (Dynamic (left_side k)) Top)) (value_of values (net (At (Dynamic (left_side k)) Top)))
  held_target k c e on early = go (own_bit s pins old k) refl
    where
      kept_cell : IsHeldCell devices is_source net (own_bit s pins old k) values k c
      kept_cell = h.cells.held k c e on early

      is : IsTapped devices is_source (λ a. net (At (Dynamic (left_side k)) a)) (dynamic WithKeeper net (left_side k) (left_stage c)) []
      is = rw (previous_overlaps deck h.frame c.clock (up_of deck h.frame c.clock ((deck.shape).clocks_are (left_side k) _ (left_is s k c e)) on) early).keepers at (dynamic_is deck (left_side k) _ (left_is s k c e))

      go : (b : Bool) → own_bit s pins old k ≡ b → IsTarget devices is_source values (net (At (Dynamic (left_side k)) Top)) (value_of values (net (At (Dynamic (left_side k)) Top)))
      go false z =
          as_value devices is_source values (net (At (Dynamic (left_side k)) Top)) One (value_of values (net (At (Dynamic (left_side k)) Top))) (kept_cell.pair.0 ∙ rw z refl)
          (keeper_holds devices is_source net values (h.frame.sources Vdd tt) (h.frame.sources Vss tt) (λ a. net (At (Dynamic (left_side k)) a)) (left_side k) (left_stage c) is on (kept_cell.shut z) (kept_cell.pair.1 ∙ rw z refl))
      go true z =
          let t = target_exists devices is_source values (net (At (Dynamic (left_side k)) Top)) (is.free Top tt) in
          let low : value_of values (net (At (Dynamic (left_side k)) Top)) ≡ Zero = kept_cell.pair.0 ∙ rw z refl in
          as_value devices is_source values (net (At (Dynamic (left_side k)) Top)) t.0 (value_of values (net (At (Dynamic (left_side k)) Top)))
          (low ∙ sym (keeps_zero devices is_source net (λ a. net (At (Dynamic (left_side k)) a)) (left_side k) (left_stage c) is values on (kept_cell.pair.1 ∙ rw z refl) (known_leaves deck h (left_side k) _ (left_is s k c e)) low (kept_cell.discharged z)
          (net (At (Dynamic (left_side k)) Top)) (inl refl) t.0 t.1)) t.1

  -- and so does an up side
  held_side_target : (k : CellSide) (c : DynamicStage) → IsSideAt s k c → value_of values (net (Clock c.clock)) ≡ One → HasPreviousFallen up c.clock
      → IsTarget devices is_source values (net (At (Dynamic k) Top)) (value_of values (net (At (Dynamic k) Top)))
  held_side_target k c e on early =
      let may = previous_overlaps deck h.frame c.clock (up_of deck h.frame c.clock ((deck.shape).clocks_are k c e) on) early in
      let x = simple_side s (are_simple deck may) k c e in
      subst (λ (q : CellSide). IsTarget devices is_source values (net (At (Dynamic q) Top)) (value_of values (net (At (Dynamic q) Top)))) (sym x.2)
      (held_target k.cell x.0 x.1 (subst (λ (y : DynamicStage). value_of values (net (Clock y.clock)) ≡ One) (sym x.3) on) (subst (λ (y : DynamicStage). HasPreviousFallen up y.clock) (sym x.3) early))

  pub captured_holds : IsCap place → (part : Part) → IsPart s part → IsCellOrSink part → IsTarget devices is_source values (net (At part Top)) (value_of values (net (At part Top)))
  captured_holds cap (Dynamic k) a d =
      elim (clock-known deck h.frame k a.0 a.1) [
        | inl off ↦ as_value devices is_source values (net (At (Dynamic k) Top)) One (value_of values (net (At (Dynamic k) Top))) (((from_capture place _ cap h.settled).sides k a.0 a.1).1 off)
            (precharges devices is_source net values (h.frame.sources Vdd tt) (h.frame.sources Vss tt) s.style (λ x. net (At (Dynamic k) x)) k a.0 (dynamic_is deck k a.0 a.1) off)
        | inr on ↦ elim (dec_previous up (a.0).clock) [ inl early ↦ held_side_target k a.0 a.1 on early | inr free ↦ by on free (known_tree deck h k a.0 a.1) ]
      ]
    where
      by : (on : value_of values (net (Clock (a.0).clock)) ≡ One) (free : HasPreviousFallen up (a.0).clock → ⊥) → IsKnown (cell_conduction net values a.0)
          → IsTarget devices is_source values (net (At (Dynamic k) Top)) (value_of values (net (At (Dynamic k) Top)))
      by on free (inl z) =
          let high : value_of values (net (At (Dynamic k) Top)) ≡ One = ((from_capture place _ cap h.settled).sides k a.0 a.1).0 on free ∙ rw z refl in
          as_value devices is_source values (net (At (Dynamic k) Top)) One (value_of values (net (At (Dynamic k) Top))) high
          (spot_holds devices is_source net values (h.frame.sources Vdd tt) (h.frame.sources Vss tt) s.style (λ x. net (At (Dynamic k) x)) k a.0 (dynamic_is deck k a.0 a.1) (deck.sources Vss tt) on
          (known_leaves deck h k a.0 a.1) (spots_held deck h k a.0 a.1 on free)
          (output_low deck h k a.0 a.1 on) high z)
      by on free (inr z) =
          as_value devices is_source values (net (At (Dynamic k) Top)) Zero (value_of values (net (At (Dynamic k) Top))) (((from_capture place _ cap h.settled).sides k a.0 a.1).0 on free ∙ rw z refl)
          (evaluates devices is_source net values (h.frame.sources Vdd tt) (h.frame.sources Vss tt) s.style (λ x. net (At (Dynamic k) x)) k a.0 (dynamic_is deck k a.0 a.1) on z)
  captured_holds cap (Output k) a d =
      static_holds deck h.frame (Output k) (dynamic_nets k (a.0).right) (output_is deck k a.0 a.1) (series-known deck h k a.0 a.1)
      ((from_capture place _ cap h.settled).cells k a.0 a.1)
  captured_holds cap (Next j) a d =
      static_holds deck h.frame (Next j) (gate_tree s (a.0).next) (next_is deck j a.0 a.1) (value-known net s values (gate-known deck h) (a.0).next ((deck.shape).nexts j a.0 a.1))
      ((from_capture place _ cap h.settled).nexts j a.0 a.1)
  captured_holds cap (Sink i) a d =
      static_holds deck h.frame (Sink i) (gate_tree s a.0) (sink_is deck i a.0 a.1) (value-known net s values (gate-known deck h) a.0 ((deck.shape).outputs_are i a.0 a.1))
      ((from_capture place _ cap h.settled).outputs i a.0 a.1)
  captured_holds cap (Complement l) a d = absurd d
  captured_holds cap (Master j) a d = absurd d
  captured_holds cap (Slave j) a d = absurd d

pub honest_is_known : HonestIsKnown
honest_is_known links net s w loose h part a d =
    driven-known loose.deck h.frame
    (gate-known loose.deck h)
    (dynamic-known loose.deck h) part a d

pub captured_at_targets : CapturedAtTargets
captured_at_targets links net s w loose h at part a d =
    captured_holds loose.deck h (cap w.place at) part a d
  where
    cap : (pl : Place) → (pl ≡ Capture) ⊎ (pl ≡ Captured) → IsCap pl
    cap Capture e = tt
    cap Captured e = tt
    cap _ e = absurd (elim e [ inl z ↦ cc | inr z ↦ cc ])
