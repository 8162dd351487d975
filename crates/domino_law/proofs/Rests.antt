-- What is known of an honest state at rest.
use Rattle.std.proofs.Common.{Bool, List, inl, inr, length, refl, sym, ℕ, ◌<◌, ◌∙◌, ◌≡◌}
use Rattle.dom_base.specs.Tri.{opposite}
use Rattle.dom_base.specs.declared.tri.Tri.{Tri}
use Rattle.dom_base.specs.declared.tri.Tri.TheVariants.{One, Zero}
use Rattle.deck.specs.Switches.{value_of}
use Rattle.deck.specs.declared.device.Device.{Device}
use Rattle.sp_network.specs.Known.{IsKnown}
use Rattle.domino_cell.specs.Stage.{IsStage, Spot, Top}
use Rattle.switch_model.specs.Targets.{IsAtRest, IsTarget}
use Rattle.dom_base.proofs.Decided.{dec_tri}
use Rattle.port_runs.specs.Environment.{Place}
use Rattle.domino_law.specs.Branches.{static_branches}
use Rattle.domino_law.specs.Honest.{IsDynamicSpot, IsHonest, IsHonestFrame, HoldsTargets, cell_conduction, HasPreviousFallen, gate_value, static_value}
use Rattle.domino_law.specs.LooseDeck.{HoldsDeck, IsPart, IsSpotOf}
use Rattle.domino_law.specs.Nets.{At, Clock, Complement, Dynamic, Gate, Net, Next, Output, Part, DeckSignal, Sink, Vdd, Vss, own, CellSide}
use Rattle.domino_law.specs.Shape.{DominoCell, HasComplement, IsCellAt, IsLatchAt, IsOutputAt, Latch, Shape, DynamicStage, IsSideAt, dynamic_nets, gate_tree}
use Rattle.domino_cell.specs.declared.style.Style.{Style}
use Rattle.domino_law.proofs.Cells.{spot_precharges}
use Rattle.domino_law.proofs.DeckParts.{AreKnownGates, complement_is, dynamic_is, gate-known, known_tree, next_is, output_is, own-known, part-free, sink_is, spot-free, spot_is, zero_or_one, value-known, cell_value-known}
use Rattle.domino_law.proofs.Parts.{evaluates, pulled_conducts, static_target}
use Rattle.domino_law.specs.Places.{ClockState}
use Rattle.sp_network.specs.Tree.{Leaf, Tree}
use Rattle.domino_law.proofs.Statics.{each_dynamic, tree_one}

module _ {devices : List Device} {is_source : ℕ → Bool} {net : Net → ℕ} {s : Shape} (deck : HoldsDeck devices is_source net s) (before : List Tri)
    (rest : IsAtRest devices is_source before) (range : (part : Part) (a : Spot) → IsSpotOf s part a → net (At part a) < length before) where
  -- each part is at its target
  pub rest_at : (part : Part) → IsPart s part → (w : Tri) → IsTarget devices is_source before (net (At part Top)) w → value_of before (net (At part Top)) ≡ w
  rest_at part a w t =
      elim (dec_tri (value_of before (net (At part Top))) w) [
        | inl e ↦ e
        | inr ne ↦ absurd (rest (net (At part Top)) w (range part Top a) (part-free deck part a, t, ne))
      ]

  pub rest_static : value_of before (net Vdd) ≡ One → value_of before (net Vss) ≡ Zero → (part : Part) → IsPart s part → (gate : Tree Net)
      → IsStage devices is_source (λ a. net (At part a)) (static_branches net gate) → IsKnown (static_value net before gate)
      → value_of before (net (At part Top)) ≡ opposite (static_value net before gate)
  rest_static high low part a gate is known = rest_at part a _ (static_target devices is_source net before high low (λ b. net (At part b)) gate is known)

  -- and so is each dynamic net of a cell whose clock is at 0
  pub rest_spots : value_of before (net Vdd) ≡ One → value_of before (net Vss) ≡ Zero → (k : CellSide) (c : DynamicStage) → IsSideAt s k c → value_of before (net (Clock c.clock)) ≡ Zero
      → (a : Spot) → IsDynamicSpot s.style c a → value_of before (net (At (Dynamic k) a)) ≡ One
  rest_spots high low k c e off a i =
      elim (dec_tri (value_of before (net (At (Dynamic k) a))) One) [
        | inl z ↦ z
        | inr ne ↦ absurd (rest (net (At (Dynamic k) a)) One (range (Dynamic k) a (spot_is deck k c e a i)) (
          spot-free deck k c e a i,
          spot_precharges devices is_source net before high low s.style (λ x. net (At (Dynamic k) x)) k c (dynamic_is deck k c e) off a i,
          ne,
        ))
      ]

-- a side of a cell is precharged, and its cell's output is low
abbrev pub IsFresh : (Net → ℕ) → Style → List Tri → CellSide → DynamicStage → Type 0
IsFresh net style values k c = (a : Spot) → IsDynamicSpot style c a → value_of values (net (At (Dynamic k) a)) ≡ One

abbrev pub IsLow : (Net → ℕ) → List Tri → ℕ → DominoCell → Type 0
IsLow net values k c = (static_value net values (dynamic_nets k c.right) ≡ One) × (value_of values (net (At (Output k) Top)) ≡ Zero)

module _ {devices : List Device} {is_source : ℕ → Bool} {net : Net → ℕ} {s : Shape} (deck : HoldsDeck devices is_source net s)
    {place : Place} {up : ℕ → ClockState} {old new pins : ℕ → Bool} {kept : ℕ → Tri} {before : List Tri} (frame : IsHonestFrame net s place up old new pins kept before)
    (rest : IsAtRest devices is_source before) (range : (part : Part) (a : Spot) → IsSpotOf s part a → net (At part a) < length before) where
  pub rest_complement : (l : DeckSignal) → HasComplement s l → value_of before (net (At (Complement l) Top)) ≡ opposite (value_of before (net (own l)))
  rest_complement l a =
      rest_static deck before rest range (frame.sources Vdd tt) (frame.sources Vss tt) (Complement l) a (Leaf (own l)) (complement_is deck l a) (own-known deck frame l ((deck.shape).complements_are l a))

  -- where the gates are known
  module _ (gates : AreKnownGates net s before) where
    pub rest_output : (k : ℕ) (c : DominoCell) → IsCellAt s k c → value_of before (net (At (Output k) Top)) ≡ opposite (static_value net before (dynamic_nets k c.right))
    rest_output k c e = rest_static deck before rest range (frame.sources Vdd tt) (frame.sources Vss tt) (Output k) (c, e) (dynamic_nets k c.right) (output_is deck k c e) (cell_value-known net s before gates k c e)

    pub rest_next : (j : ℕ) (b : Latch) → IsLatchAt s j b → value_of before (net (At (Next j) Top)) ≡ opposite (gate_value net s before b.next)
    rest_next j b e = rest_static deck before rest range (frame.sources Vdd tt) (frame.sources Vss tt) (Next j) (b, e) (gate_tree s b.next) (next_is deck j b e) (value-known net s before gates b.next ((deck.shape).nexts j b e))

    pub rest_sink : (i : ℕ) (g : Gate) → IsOutputAt s i g → value_of before (net (At (Sink i) Top)) ≡ opposite (gate_value net s before g)
    rest_sink i g e = rest_static deck before rest range (frame.sources Vdd tt) (frame.sources Vss tt) (Sink i) (g, e) (gate_tree s g) (sink_is deck i g e) (value-known net s before gates g ((deck.shape).outputs_are i g e))

module _ {devices : List Device} {is_source : ℕ → Bool} {net : Net → ℕ} {s : Shape} (deck : HoldsDeck devices is_source net s)
    {place : Place} {up : ℕ → ClockState} {old new pins : ℕ → Bool} {kept : ℕ → Tri} {before : List Tri} (h : IsHonest devices is_source net s place up old new pins kept before)
    (rest : IsAtRest devices is_source before) (range : (part : Part) (a : Spot) → IsSpotOf s part a → net (At part a) < length before) where
  -- at rest an evaluated side's dynamic net is the opposite of its tree, unless it holds
  pub rest_dynamic : (k : CellSide) (c : DynamicStage) (e : IsSideAt s k c) → value_of before (net (Clock c.clock)) ≡ One → (HasPreviousFallen up c.clock → ⊥)
      → value_of before (net (At (Dynamic k) Top)) ≡ opposite (cell_conduction net before c)
  rest_dynamic k c e on free =
      elim (known_tree deck h k c e) [
        | inl t ↦ elim ((h.cells.sides k c e).spots_known Top tt) [
          | inr one ↦ one ∙ sym (rw t refl)
          | inl low ↦
              absurd (zero_or_one (sym t ∙ pulled_conducts devices is_source net before (h.frame.sources Vdd tt) (h.frame.sources Vss tt) s.style (λ a. net (At (Dynamic k) a)) k c (dynamic_is deck k c e) (deck.sources Vss tt) ((h.cells.sides k c e).pulled on free Top tt low)))
        ]
        | inr t ↦ rest_at deck before rest range (Dynamic k) (c, e) Zero (evaluates devices is_source net before (h.frame.sources Vdd tt) (h.frame.sources Vss tt) s.style (λ a. net (At (Dynamic k) a)) k c (dynamic_is deck k c e) on t) ∙ sym (rw t refl)
      ]

  -- at rest a cell with its clock at 0 is precharged
  pub rest_precharged : (k : CellSide) (c : DynamicStage) (e : IsSideAt s k c) → value_of before (net (Clock c.clock)) ≡ Zero → IsFresh net s.style before k c
  rest_precharged k c e off = rest_spots deck before rest range (h.frame.sources Vdd tt) (h.frame.sources Vss tt) k c e off

  pub rest_low : (k : ℕ) (c : DominoCell) (e : IsCellAt s k c) → value_of before (net (Clock c.clock)) ≡ Zero → IsLow net before k c
  rest_low k c e off =
      let w : static_value net before (dynamic_nets k c.right) ≡ One =
      tree_one (λ a. value_of before (net a)) (dynamic_nets k c.right) (each_dynamic s (λ a. value_of before (net a) ≡ One) k c e (λ d z side i. rest_precharged _ d i (rw z off) Top tt)) in
      (w, rest_output deck h.frame rest range (gate-known deck h) k c e ∙ rw w refl)

  -- and the state is settled
  pub rest_settled : HoldsTargets net s up before
  rest_settled =
      let gates = gate-known deck h in
      record {
        sides = λ k c e. (rest_dynamic k c e, (λ off. rest_precharged k c e off Top tt));
        cells = rest_output deck h.frame rest range gates;
        nexts = rest_next deck h.frame rest range gates;
        outputs = rest_sink deck h.frame rest range gates;
      }
