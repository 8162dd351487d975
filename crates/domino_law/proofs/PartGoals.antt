-- The last value that an event in a place can give a part.
use Rattle.std.proofs.Common.{Bool, List, ℕ, ◌∙◌, ◌≡◌}
use Rattle.std.proofs.lemmas.List.{get_or-set_same}
use Rattle.dom_base.specs.Tri.{opposite}
use Rattle.dom_base.specs.declared.tri.Tri.{Tri}
use Rattle.dom_base.specs.declared.tri.Tri.TheVariants.{Unknown}
use Rattle.deck.specs.Switches.{value_of}
use Rattle.deck.specs.declared.device.Device.{Device}
use Rattle.domino_cell.specs.Stage.{Top}
use Rattle.switch_model.specs.Targets.{EventAt}
use Rattle.port_runs.specs.Environment.{Place, bit}
use Rattle.domino_law.specs.Honest.{IsHonest}
use Rattle.domino_law.specs.LooseDeck.{HoldsDeck, IsPart}
use Rattle.domino_law.specs.Nets.{At, Complement, Dynamic, Master, Net, Next, Output, Part, Sink, Slave}
use Rattle.domino_law.specs.Shape.{Shape, gate_tree}
use Rattle.domino_law.proofs.NetEvents.{NextEvent, next_event}
use Rattle.domino_law.proofs.DeckParts.{gate-known, next_is, sink_is, value-known}
use Rattle.domino_law.proofs.EventsHonest.{honest_after}
use Rattle.domino_law.proofs.Goals.{complement_event, dynamic_event, in_step_after, lag_event, master_event, output_event, slave_event}
use Rattle.domino_law.proofs.Lags.{IsInStep, dynamic_goal, gate_goal, own_goal, slave_goal}
use Rattle.domino_law.specs.Places.{ClockState}

module _ {devices : List Device} {is_source : ℕ → Bool} {net : Net → ℕ} {s : Shape} (deck : HoldsDeck devices is_source net s)
    (place : Place) (up : ℕ → ClockState) (old new pins : ℕ → Bool) (kept : ℕ → Tri) where
  abbrev pub part_goal : (part : Part) → IsPart s part → Tri
  part_goal (Dynamic k) a = dynamic_goal place (up (a.0).clock)
  part_goal (Output k) a = opposite (dynamic_goal place (up (a.0).clock))
  part_goal (Complement l) a = opposite (own_goal place old new pins l)
  part_goal (Master j) a = opposite (bit (new j))
  part_goal (Slave j) a = slave_goal place (bit (old j)) (bit (new j))
  part_goal (Next j) a = opposite (gate_goal s place up old new pins (a.0).next)
  part_goal (Sink i) a = opposite (gate_goal s place up old new pins a.0)

  pub part_event : (before : List Tri) (h : IsHonest devices is_source net s place up old new pins kept before) (lag : IsInStep net s place up old new pins before)
      (event : NextEvent devices is_source before) (part : Part) (a : IsPart s part) → net (At part Top) ≡ event.net → event.value ≡ part_goal part a
  part_event before h lag event (Dynamic k) a m = dynamic_event deck h event lag k a.0 a.1 m
  part_event before h lag event (Output k) a m = output_event deck h event lag k a.0 a.1 m
  part_event before h lag event (Complement l) a m = complement_event deck h.frame event lag l a m
  part_event before h lag event (Master j) a m = master_event deck h.frame event lag j a.0 a.1 m
  part_event before h lag event (Slave j) a m = slave_event deck h.frame event lag j a.0 a.1 m
  part_event before h lag event (Next j) a m =
      lag_event deck h.frame event lag (λ b. net (At (Next j) b)) (gate_tree s (a.0).next) (gate_goal s place up old new pins (a.0).next)
      (next_is deck j a.0 a.1) (value-known net s before (gate-known deck h) (a.0).next ((deck.shape).nexts j a.0 a.1)) (lag.nexts j a.0 a.1) m
  part_event before h lag event (Sink i) a m =
      lag_event deck h.frame event lag (λ b. net (At (Sink i) b)) (gate_tree s a.0) (gate_goal s place up old new pins a.0)
      (sink_is deck i a.0 a.1) (value-known net s before (gate-known deck h) a.0 ((deck.shape).outputs_are i a.0 a.1)) (lag.outputs i a.0 a.1) m

  -- an event keeps an honest state in step
  pub after_event : (n : ℕ) (before after : List Tri) → IsHonest devices is_source net s place up old new pins kept before → IsInStep net s place up old new pins before → EventAt devices is_source n before after
      → IsHonest devices is_source net s place up old new pins kept after × IsInStep net s place up old new pins after
  after_event n before after h lag e =
      rw e.3 (honest_after deck h (next_event e), in_step_after deck h (next_event e) lag)

  -- and gives a part its last value
  pub event_goal : (n : ℕ) (before after : List Tri) → IsHonest devices is_source net s place up old new pins kept before → IsInStep net s place up old new pins before → EventAt devices is_source n before after
      → (part : Part) (a : IsPart s part) → net (At part Top) ≡ n → value_of after n ≡ part_goal part a
  event_goal n before after h lag e part a m =
      rw e.3 (get_or-set_same before n e.0 Unknown e.1) ∙ part_event before h lag (next_event e) part a m
