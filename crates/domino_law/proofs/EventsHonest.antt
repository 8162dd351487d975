-- Each event takes an honest state to an honest state.
use Rattle.std.proofs.Common.{Bool, List, refl, sym, ℕ, ◌<◌, ◌∙◌, ◌≡◌, inl, inr}
use Rattle.dom_base.specs.declared.kind.Kind.TheVariants.{N as nch}
use Rattle.dom_base.specs.declared.tri.Tri.{Tri}
use Rattle.deck.specs.Switches.{value_of}
use Rattle.deck.specs.declared.device.Device.{Device}
use Rattle.sp_network.proofs.TreeImages.{tree_conduction-same}
use Rattle.domino_cell.specs.Stage.{Top}
use Rattle.port_runs.specs.Environment.{Place}
use Rattle.domino_law.specs.Honest.{IsHonest, HoldsTargets, cell_conduction, IsHonestOutput, IsHonestSide, gate_value, static_value}
use Rattle.domino_law.specs.LooseDeck.{HoldsDeck}
use Rattle.domino_law.specs.Nets.{At, Clock, Dynamic, Gate, Net, Next, Output, Sink, Vdd, Vss, gate_net, CellSide, left_side}
use Rattle.domino_law.specs.Shape.{DominoCell, IsCellAt, IsGate, IsLatchAt, IsOutputAt, Latch, Shape, DynamicStage, IsSideAt, dynamic_nets, gate_tree}
use Rattle.domino_law.proofs.DeckParts.{gate-known, leaf_is_gate, next_is, output_is, sink_is, zero_or_one, clock-known, dynamic_is, series-known, value-known}
use Rattle.domino_law.proofs.Events.{dynamic_falls, evaluated_after, idle_after, pulled_after, spots_idle_after, spots_known_after, held_after, held_side}
use Rattle.domino_law.proofs.FrameEvents.{complement_stays, frame_after, inverter_stays, leaf_stays}
use Rattle.domino_law.proofs.Leaves.{EachLeaf-weaker}
use Rattle.domino_law.proofs.NetEvents.{NextEvent, after_next, kept_at, source_kept, stays_at_target}
use Rattle.domino_law.proofs.Places.{IsCap, cap_shut, from_capture, if_capture}
use Rattle.domino_law.specs.Places.{ClockState}
use Rattle.domino_law.proofs.ClockOrder.{dec_previous}
use Rattle.domino_law.proofs.Parts.{precharges}
use Rattle.dom_base.specs.declared.tri.Tri.TheVariants.{One}
use Rattle.sp_network.specs.Tree.{EachLeaf}
use Rattle.domino_law.proofs.Statics.{each_dynamic, gate_nets, leaf_net, left_is}

module _ {devices : List Device} {is_source : ℕ → Bool} {net : Net → ℕ} {s : Shape} (deck : HoldsDeck devices is_source net s)
    {place : Place} {up : ℕ → ClockState} {old new pins : ℕ → Bool} {keeps_at : ℕ → Tri} {before : List Tri} (h : IsHonest devices is_source net s place up old new pins keeps_at before)
    (event : NextEvent devices is_source before) where
  -- In capture and captured no net that a cell, a sink or a latch input reads has an event.
  module _ (cap : IsCap place) where
    pub output_stays : (k : ℕ) (c : DominoCell) → IsCellAt s k c → value_of (after_next event) (net (At (Output k) Top)) ≡ value_of before (net (At (Output k) Top))
    output_stays k c e =
        inverter_stays deck h.frame event (λ b. net (At (Output k) b)) (dynamic_nets k c.right) (output_is deck k c e)
        (series-known deck h k c e) ((from_capture place _ cap h.settled).cells k c e)

    pub dynamic_stays : (k : CellSide) (c : DynamicStage) → IsSideAt s k c → value_of (after_next event) (net (At (Dynamic k) Top)) ≡ value_of before (net (At (Dynamic k) Top))
    dynamic_stays k c e =
        elim (clock-known deck h.frame k c e) [
          | inl off ↦ stays_at_target event (net (At (Dynamic k) Top)) One (((from_capture place _ cap h.settled).sides k c e).1 off)
              (precharges devices is_source net before (h.frame.sources Vdd tt) (h.frame.sources Vss tt) s.style (λ a. net (At (Dynamic k) a)) k c (dynamic_is deck k c e) off)
          | inr on ↦ elim (dec_previous up c.clock) [
            | inl early ↦ (held_side deck h event k c e on early).2
            | inr free ↦ kept_at event (net (At (Dynamic k) Top)) (λ m.
                let f = dynamic_falls deck h event k c e on free m in
                zero_or_one (sym (((from_capture place _ cap h.settled).sides k c e).0 on free ∙ rw f.2 refl) ∙ f.0))
          ]
        ]

    -- the nets of a gate stay
    pub gate_stays : (g : Gate) → IsGate s g → EachLeaf (λ a. value_of (after_next event) (net a) ≡ value_of before (net a)) (gate_tree s g)
    gate_stays =
        gate_nets s (λ a. value_of (after_next event) (net a) ≡ value_of before (net a))
        (λ l a. leaf_stays deck h.frame event l a (cap_shut place cap))
        (λ l a. complement_stays deck h.frame event cap l a)
        output_stays dynamic_stays
        (source_kept event (net Vdd) (deck.sources Vdd tt)) (source_kept event (net Vss) (deck.sources Vss tt))

    value_stays : (g : Gate) → IsGate s g → gate_value net s (after_next event) g ≡ gate_value net s before g
    value_stays g a = tree_conduction-same nch (λ a. value_of (after_next event) (net a)) (λ a. value_of before (net a)) (gate_tree s g) (gate_stays g a)

    series_stays : (k : ℕ) (c : DominoCell) → IsCellAt s k c → static_value net (after_next event) (dynamic_nets k c.right) ≡ static_value net before (dynamic_nets k c.right)
    series_stays k c e =
        tree_conduction-same nch (λ a. value_of (after_next event) (net a)) (λ a. value_of before (net a)) (dynamic_nets k c.right)
        (each_dynamic s (λ a. value_of (after_next event) (net a) ≡ value_of before (net a)) k c e (λ d z side i. dynamic_stays _ d i))

    conduction_stays : (k : CellSide) (c : DynamicStage) → IsSideAt s k c → cell_conduction net (after_next event) c ≡ cell_conduction net before c
    conduction_stays k c e =
        tree_conduction-same nch (λ g. value_of (after_next event) (net (gate_net g))) (λ g. value_of before (net (gate_net g))) c.tree
        (EachLeaf-weaker _ (λ g. value_of (after_next event) (net (gate_net g)) ≡ value_of before (net (gate_net g)))
        (λ g l. leaf_net s (λ a. value_of (after_next event) (net a) ≡ value_of before (net a)) k.cell g l (gate_stays g (leaf_is_gate s k.cell g l))) c.tree ((deck.shape).leaves k c e))

    clock_stays : (k : CellSide) (c : DynamicStage) → IsSideAt s k c → value_of (after_next event) (net (Clock c.clock)) ≡ value_of before (net (Clock c.clock))
    clock_stays k c e = source_kept event (net (Clock c.clock)) (deck.sources (Clock c.clock) ((deck.shape).clocks_are k c e))

    pub next_stays : (j : ℕ) (b : Latch) → IsLatchAt s j b → value_of (after_next event) (net (At (Next j) Top)) ≡ value_of before (net (At (Next j) Top))
    next_stays j b e =
        inverter_stays deck h.frame event (λ a. net (At (Next j) a)) (gate_tree s b.next) (next_is deck j b e)
        (value-known net s before (gate-known deck h) b.next ((deck.shape).nexts j b e)) ((from_capture place _ cap h.settled).nexts j b e)

    pub sink_stays : (i : ℕ) (g : Gate) → IsOutputAt s i g → value_of (after_next event) (net (At (Sink i) Top)) ≡ value_of before (net (At (Sink i) Top))
    sink_stays i g e =
        inverter_stays deck h.frame event (λ b. net (At (Sink i) b)) (gate_tree s g) (sink_is deck i g e)
        (value-known net s before (gate-known deck h) g ((deck.shape).outputs_are i g e)) ((from_capture place _ cap h.settled).outputs i g e)

    settled_after : HoldsTargets net s up (after_next event)
    settled_after =
        let settled = from_capture place _ cap h.settled in
        record {
          sides = λ k c e. let t = settled.sides k c e in (
            (λ on free. dynamic_stays k c e ∙ (t.0 (sym (clock_stays k c e) ∙ on) free ∙ sym (rw (conduction_stays k c e) refl))),
            (λ off. dynamic_stays k c e ∙ t.1 (sym (clock_stays k c e) ∙ off)),
          );
          cells = λ k c e. output_stays k c e ∙ (settled.cells k c e ∙ sym (rw (series_stays k c e) refl));
          nexts = λ j b e. next_stays j b e ∙ (settled.nexts j b e ∙ sym (rw (value_stays b.next ((deck.shape).nexts j b e)) refl));
          outputs = λ i g e. sink_stays i g e ∙ (settled.outputs i g e ∙ sym (rw (value_stays g ((deck.shape).outputs_are i g e)) refl));
        }

  clock_same : (i : ℕ) → i < s.clocks → value_of (after_next event) (net (Clock i)) ≡ value_of before (net (Clock i))
  clock_same i a = source_kept event (net (Clock i)) (deck.sources (Clock i) a)

  side_after : (k : CellSide) (c : DynamicStage) → IsSideAt s k c → IsHonestSide devices is_source net s.style up (after_next event) k c
  side_after k c e =
      let same = clock_same c.clock ((deck.shape).clocks_are k c e) in
      record {
        pulled = λ on free a i z. pulled_after deck h event k c e (sym same ∙ on) free a i z;
        spots_known = spots_known_after deck h event k c e;
        spots_idle = λ off a i. spots_idle_after deck h event k c e (sym same ∙ off) a i;
      }

  out_after : (k : ℕ) (c : DominoCell) → IsCellAt s k c → IsHonestOutput net up (after_next event) k c
  out_after k c e =
      let same = clock_same c.clock ((deck.shape).clocks_are (left_side k) _ (left_is s k c e)) in
      record {
        evaluated = λ on. evaluated_after deck h event k c e (sym same ∙ on);
        idle = λ off. idle_after deck h event k c e (sym same ∙ off);
      }

  pub honest_after : IsHonest devices is_source net s place up old new pins keeps_at (after_next event)
  honest_after =
      record {
        frame = frame_after deck h.frame event
            (gate-known deck h) (λ cap. next_stays cap);
        cells = record {
          sides = side_after;
          outs = out_after;
          held = λ k c e on early. held_after deck h event k c e (sym (clock_same c.clock ((deck.shape).clocks_are (left_side k) _ (left_is s k c e))) ∙ on) early;
        };
        settled = if_capture place _ settled_after;
      }
