-- After each move the static gates are in step with their gates.
use Rattle.std.specs.Prelude.{None, Option, Some, slice_get}
use Rattle.std.proofs.Common.{Bool, List, inl, inr, length, refl, sym, ℕ, ◌<◌, ◌∙◌, ◌≡◌, ap, subst}
use Rattle.dom_base.specs.Tri.{opposite}
use Rattle.dom_base.specs.declared.tri.Tri.{Tri}
use Rattle.deck.specs.Switches.{value_of}
use Rattle.deck.specs.declared.device.Device.{Device}
use Rattle.domino_cell.specs.Stage.{Spot, Top}
use Rattle.switch_model.specs.Targets.{IsAtRest}
use Rattle.port_runs.specs.Environment.{Place}
use Rattle.domino_law.specs.Honest.{IsHonestFrame, gate_value, static_value}
use Rattle.domino_law.specs.LooseDeck.{HoldsDeck, IsPart, IsSpotOf}
use Rattle.domino_law.specs.Nets.{At, Complement, FromDynamic, FromLatch, FromOutput, FromPin, Gate, High, Low, Minus, Net, Next, Output, Part, Pin, Plus, Sink, Slave, Vdd, Vss, own}
use Rattle.domino_law.specs.Runs.{ChangesSources}
use Rattle.domino_law.specs.Shape.{IsGate, Shape, DominoCell, gate_tree}
use Rattle.domino_law.proofs.Carried.{same, series-same, value-same}
use Rattle.domino_law.proofs.DeckParts.{AreKnownGates}
use Rattle.domino_law.proofs.Lags.{IsInStep, IsLag, gate_goal, cell_state, dynamic_goal}
use Rattle.domino_law.proofs.Rests.{rest_complement, rest_next, rest_sink}
use Rattle.domino_law.specs.Places.{AreSourcesBy, ClockState}
use Rattle.sp_network.specs.Tree.{Leaf, Tree}
use Rattle.domino_law.proofs.Statics.{cell_gate}

-- nets that stay and a static gate that stays
lag_same : (net : Net → ℕ) (before after : List Tri) (goal : Tri) (t : Tree Net) (top : ℕ) → static_value net after t ≡ static_value net before t → value_of after top ≡ value_of before top
    → value_of before top ≡ opposite (static_value net before t) → IsLag net after goal t top
lag_same net before after goal t top g w e = inr (w ∙ (e ∙ sym (rw g refl)))

module _ {devices : List Device} {is_source : ℕ → Bool} {net : Net → ℕ} {s : Shape} (deck : HoldsDeck devices is_source net s)
    {place : Place} {up : ℕ → ClockState} {old new pins : ℕ → Bool} {kept : ℕ → Tri} {before : List Tri} (frame : IsHonestFrame net s place up old new pins kept before)
    (place' : Place) (up' : ℕ → ClockState) (pins' : ℕ → Bool) (after : List Tri) (sources : AreSourcesBy net s place' up' pins' after) (only : ChangesSources is_source before after)
    (rest : IsAtRest devices is_source before) (range : (part : Part) (a : Spot) → IsSpotOf s part a → net (At part a) < length before) (gates : AreKnownGates net s before) (old' new' : ℕ → Bool) where
  same_part : (part : Part) → IsPart s part → value_of after (net (At part Top)) ≡ value_of before (net (At part Top))
  same_part = same deck before after only

  -- a pin has its value at once, and any other gate stays
  lag_gate : (g : Gate) → IsGate s g → (top : ℕ) → value_of after top ≡ value_of before top → value_of before top ≡ opposite (gate_value net s before g)
      → IsLag net after (gate_goal s place' up' old' new' pins' g) (gate_tree s g) top
  lag_gate (Plus (FromPin p)) a top t o = inl (sources (Pin p) a)
  lag_gate (Plus (FromLatch j)) a top t o = lag_same net before after _ (Leaf (At (Slave j) Top)) top (same_part (Slave j) a) t o
  lag_gate (Minus l) a top t o = lag_same net before after _ (Leaf (At (Complement l) Top)) top (same_part (Complement l) a) t o
  lag_gate (FromOutput k) a top t o = lag_same net before after _ (Leaf (At (Output k) Top)) top (same_part (Output k) a) t o
  lag_gate (FromDynamic k) a top t o =
      lag_same net before after _ (gate_tree s (FromDynamic k)) top (rw (cell_gate s k a.0 a.1) (series-same deck before after only k a.0 a.1)) t o
  lag_gate High a top t o = inl (sources Vdd tt)
  lag_gate Low a top t o = inl (sources Vss tt)

  pub in_step_opens : IsInStep net s place' up' old' new' pins' after
  in_step_opens =
      record {
        complements = λ l a. lag_gate (Plus l) ((deck.shape).complements_are l a) (net (At (Complement l) Top)) (same_part (Complement l) a)
            (rest_complement deck frame rest range l a);
        nexts = λ j b e. lag_gate b.next ((deck.shape).nexts j b e) (net (At (Next j) Top)) (same_part (Next j) (b, e))
            (rest_next deck frame rest range gates j b e);
        outputs = λ i g e. lag_gate g ((deck.shape).outputs_are i g e) (net (At (Sink i) Top)) (same_part (Sink i) (g, e))
            (rest_sink deck frame rest range gates i g e);
      }

-- a later clock's rise changes none of them
module _ {devices : List Device} {is_source : ℕ → Bool} {net : Net → ℕ} {s : Shape} (deck : HoldsDeck devices is_source net s)
    {place : Place} {up : ℕ → ClockState} {old new pins : ℕ → Bool} {kept : ℕ → Tri} {before : List Tri} (frame : IsHonestFrame net s place up old new pins kept before)
    (up' : ℕ → ClockState) (after : List Tri) (sources : AreSourcesBy net s place up' pins after) (only : ChangesSources is_source before after) (lag : IsInStep net s place up old new pins before)
    (goals : (i : ℕ) → dynamic_goal place (up' i) ≡ dynamic_goal place (up i)) where
  keep_lag : (goal : Tri) (gate : Tree Net) (top : ℕ) → static_value net after gate ≡ static_value net before gate → value_of after top ≡ value_of before top → IsLag net before goal gate top → IsLag net after goal gate top
  keep_lag goal gate top g t (inl e) = inl (g ∙ e)
  keep_lag goal gate top g t (inr e) = inr (t ∙ (e ∙ sym (rw g refl)))

  kept_part : (part : Part) → IsPart s part → value_of after (net (At part Top)) ≡ value_of before (net (At part Top))
  kept_part = same deck before after only

  kept_gate : (g : Gate) → IsGate s g → gate_value net s after g ≡ gate_value net s before g
  kept_gate = value-same deck frame place up' pins after sources only (λ p a. refl)

  same_goal : (g : Gate) → gate_goal s place up' old new pins g ≡ gate_goal s place up old new pins g
  same_goal (Plus l) = refl
  same_goal (Minus l) = refl
  same_goal (FromOutput k) = ap opposite (same_state (slice_get s.cells k))
    where
      same_state : (c : Option DominoCell) → dynamic_goal place (cell_state up' c) ≡ dynamic_goal place (cell_state up c)
      same_state None = refl
      same_state (Some c) = goals c.clock
  same_goal (FromDynamic k) = same_state (slice_get s.cells k)
    where
      same_state : (c : Option DominoCell) → dynamic_goal place (cell_state up' c) ≡ dynamic_goal place (cell_state up c)
      same_state None = refl
      same_state (Some c) = goals c.clock
  same_goal High = refl
  same_goal Low = refl

  keep_gate : (g : Gate) (gate : Tree Net) (top : ℕ) → static_value net after gate ≡ static_value net before gate → value_of after top ≡ value_of before top
      → IsLag net before (gate_goal s place up old new pins g) gate top → IsLag net after (gate_goal s place up' old new pins g) gate top
  keep_gate g gate top a b l = subst (λ goal. IsLag net after goal gate top) (sym (same_goal g)) (keep_lag (gate_goal s place up old new pins g) gate top a b l)

  pub in_step_rises : IsInStep net s place up' old new pins after
  in_step_rises =
      record {
        complements = λ l a. keep_lag _ (Leaf (own l)) (net (At (Complement l) Top)) (kept_gate (Plus l) ((deck.shape).complements_are l a)) (kept_part (Complement l) a) (lag.complements l a);
        nexts = λ j b e. keep_gate b.next (gate_tree s b.next) (net (At (Next j) Top)) (kept_gate b.next ((deck.shape).nexts j b e)) (kept_part (Next j) (b, e)) (lag.nexts j b e);
        outputs = λ i g e. keep_gate g (gate_tree s g) (net (At (Sink i) Top)) (kept_gate g ((deck.shape).outputs_are i g e)) (kept_part (Sink i) (g, e)) (lag.outputs i g e);
      }
