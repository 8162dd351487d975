-- Two honest rests of one place of one history agree on each part.
use Rattle.std.proofs.Common.{Bool, List, [], ap, arith, inl, inr, length, refl, subst, suc, sym, zero, ℕ, ◌+◌, ◌<◌, ◌∙◌, ◌≡◌}
use Rattle.dom_base.specs.Tri.{opposite}
use Rattle.dom_base.specs.declared.kind.Kind.TheVariants.{N as nch}
use Rattle.dom_base.specs.declared.tri.Tri.{Tri}
use Rattle.dom_base.specs.declared.tri.Tri.TheVariants.{One}
use Rattle.deck.specs.Switches.{value_of}
use Rattle.deck.specs.declared.device.Device.{Device}
use Rattle.sp_network.proofs.TreeImages.{tree_conduction-same}
use Rattle.domino_cell.specs.Stage.{Spot, Top}
use Rattle.switch_model.specs.Targets.{IsAtRest}
use Rattle.port_runs.specs.Environment.{Capture, Evaluation, Launch, Launched, Pins, Place, Released, Reset, bit}
use Rattle.domino_law.specs.Honest.{HasPreviousFallen, IsHonest, IsHonestFrame, gate_value, static_value}
use Rattle.domino_law.specs.LooseDeck.{HoldsDeck, IsPart, IsSourceNet, IsSpotOf}
use Rattle.domino_law.specs.Nets.{At, Clock, Complement, Dynamic, FromDynamic, FromLatch, FromOutput, FromPin, Gate, High, Lm, Lmb, Low, Ls, Lsb, Master, Minus, Net, Next, Output, Part, Pin, Plus, Rs, Rsb, DeckSignal, Sink, Slave, Vdd, Vss, gate_net, own, CellSide, Side}
use Rattle.domino_law.specs.Shape.{DominoCell, HasComplement, IsCellAt, IsGate, IsLatchAt, IsLeafOf, IsOutputAt, IsSignal, Latch, Shape, DynamicStage, IsSideAt, dynamic_nets, gate_tree}
use Rattle.domino_law.proofs.DeckParts.{AreKnownGates, clock-known, gate-known, master_is, opposite-known, opposite_twice, slave_is, are_simple, previous_overlaps, up_of}
use Rattle.domino_law.proofs.GateNets.{IsMain}
use Rattle.domino_law.proofs.Lags.{slave_goal}
use Rattle.domino_law.proofs.Leaves.{EachLeaf-weaker}
use Rattle.domino_law.proofs.Parts.{clocked_target, slave_open}
use Rattle.domino_law.proofs.Places.{bit-known}
use Rattle.domino_law.proofs.Rests.{rest_at, rest_complement, rest_dynamic, rest_next, rest_output, rest_precharged, rest_sink}
use Rattle.domino_law.specs.Places.{ClockState}
use Rattle.domino_law.proofs.ClockOrder.{dec_previous}
use Rattle.domino_law.proofs.SimpleCells.{simple_side}
use Rattle.domino_law.proofs.Statics.{each_dynamic, gate_nets}

module _ {devices : List Device} {is_source : ℕ → Bool} {net : Net → ℕ} {s : Shape} (deck : HoldsDeck devices is_source net s)
    (place : Place) (up : ℕ → ClockState) (old new pins : ℕ → Bool) (kept : ℕ → Tri) where
  -- a rest whose frame is honest and whose gates are known
  pub record IsRestingFrame (values : List Tri) : Type 0 where
    pub frame : IsHonestFrame net s place up old new pins kept values
    pub gates : AreKnownGates net s values
    pub rest : IsAtRest devices is_source values
    pub range : (part : Part) (a : Spot) → IsSpotOf s part a → net (At part a) < length values

  -- an honest rest
  pub record IsResting (values : List Tri) : Type 0 where
    pub honest : IsHonest devices is_source net s place up old new pins kept values
    pub rest : IsAtRest devices is_source values
    pub range : (part : Part) (a : Spot) → IsSpotOf s part a → net (At part a) < length values

  frame_of : (values : List Tri) → IsResting values → IsRestingFrame values
  frame_of values r = record { frame = r.honest.frame; gates = gate-known deck r.honest; rest = r.rest; range = r.range }

  -- the value of a latch output and of a master at rest
  slave_rests : (values : List Tri) → IsRestingFrame values → (j : ℕ) (b : Latch) → IsLatchAt s j b → value_of values (net (At (Slave j) Top)) ≡ slave_goal place (bit (old j)) (bit (new j))
  slave_rests values r j b e = by place refl r.frame
    where
      by : (pl : Place) → place ≡ pl → IsHonestFrame net s pl up old new pins kept values → value_of values (net (At (Slave j) Top)) ≡ slave_goal pl (bit (old j)) (bit (new j))
      by Launch z h =
          rest_at deck values r.rest r.range (Slave j) (b, e) _
          (slave_open devices is_source net values (h.sources Vdd tt) (h.sources Vss tt) (λ a. net (At (Slave j) a)) (At (Master j) Top) b.init (slave_is deck j b e) (h.sources Lsb tt) (h.sources Ls tt) (h.sources Rs tt) (h.sources Rsb tt)
          (rw (h.masters j b e) (opposite-known _ (bit-known (new j)))))
          ∙ rw (h.masters j b e) (opposite_twice (new j))
      by Launched z h = h.slaves j b e
      by _ z h = h.slaves j b e

  master_rest : Place → Tri → Tri → Tri
  master_rest Reset kept new = kept
  master_rest Released kept new = kept
  master_rest Pins kept new = kept
  master_rest Evaluation kept new = kept
  master_rest _ kept new = opposite new

  master_rests : (values : List Tri) → IsRestingFrame values → (j : ℕ) (b : Latch) → IsLatchAt s j b → value_of values (net (At (Master j) Top)) ≡ master_rest place (kept j) (bit (new j))
  unfolding master_rest
  master_rests values r j b e = by place refl r.frame
    where
      by : (pl : Place) → place ≡ pl → IsHonestFrame net s pl up old new pins kept values → value_of values (net (At (Master j) Top)) ≡ master_rest pl (kept j) (bit (new j))
      by Capture z h =
          rest_at deck values r.rest r.range (Master j) (b, e) _
          (clocked_target devices is_source net values (h.sources Vdd tt) (h.sources Vss tt) (λ a. net (At (Master j) a)) Lmb Lm (At (Next j) Top) [] (master_is deck j b e) (h.sources Lmb tt) (h.sources Lm tt) tt (h.nexts j b e))
          ∙ rw (h.next_is j b e) refl
      by _ z h = h.masters j b e

  module _ (a b : List Tri) (ra : IsRestingFrame a) (rb : IsRestingFrame b) where
    source_alike : (x : Net) → IsSourceNet s x → value_of a (net x) ≡ value_of b (net x)
    source_alike x i = ra.frame.sources x i ∙ sym (rb.frame.sources x i)

    own_alike : (l : DeckSignal) → IsSignal s l → value_of a (net (own l)) ≡ value_of b (net (own l))
    own_alike (FromPin p) i = source_alike (Pin p) i
    own_alike (FromLatch j) i = slave_rests a ra j i.0 i.1 ∙ sym (slave_rests b rb j i.0 i.1)

    complement_alike : (l : DeckSignal) → HasComplement s l → value_of a (net (At (Complement l) Top)) ≡ value_of b (net (At (Complement l) Top))
    complement_alike l i =
        rest_complement deck ra.frame ra.rest ra.range l i
        ∙ (ap opposite (own_alike l ((deck.shape).complements_are l i)) ∙ sym (rest_complement deck rb.frame rb.rest rb.range l i))

    -- inverters of gates that agree
    next_alike : (j : ℕ) (b' : Latch) → IsLatchAt s j b' → gate_value net s a b'.next ≡ gate_value net s b b'.next → value_of a (net (At (Next j) Top)) ≡ value_of b (net (At (Next j) Top))
    next_alike j b' e z =
        rest_next deck ra.frame ra.rest ra.range ra.gates j b' e
        ∙ (ap opposite z ∙ sym (rest_next deck rb.frame rb.rest rb.range rb.gates j b' e))

    sink_alike : (i : ℕ) (g : Gate) → IsOutputAt s i g → gate_value net s a g ≡ gate_value net s b g → value_of a (net (At (Sink i) Top)) ≡ value_of b (net (At (Sink i) Top))
    sink_alike i g e z =
        rest_sink deck ra.frame ra.rest ra.range ra.gates i g e
        ∙ (ap opposite z ∙ sym (rest_sink deck rb.frame rb.rest rb.range rb.gates i g e))

    output_alike : (k : ℕ) (c : DominoCell) → IsCellAt s k c → static_value net a (dynamic_nets k c.right) ≡ static_value net b (dynamic_nets k c.right) → value_of a (net (At (Output k) Top)) ≡ value_of b (net (At (Output k) Top))
    output_alike k c e z =
        rest_output deck ra.frame ra.rest ra.range ra.gates k c e
        ∙ (ap opposite z ∙ sym (rest_output deck rb.frame rb.rest rb.range rb.gates k c e))

  module _ (a b : List Tri) (ra : IsResting a) (rb : IsResting b) where
    fa : IsRestingFrame a
    fa = frame_of a ra

    fb : IsRestingFrame b
    fb = frame_of b rb

    Alike : ℕ → Type 0
    Alike k =
        ((side : Side) (c : DynamicStage) → IsSideAt s (record { cell = k; side = side }) c
        → value_of a (net (At (Dynamic (record { cell = k; side = side })) Top)) ≡ value_of b (net (At (Dynamic (record { cell = k; side = side })) Top)))
        × (value_of a (net (At (Output k) Top)) ≡ value_of b (net (At (Output k) Top)))

    leaf_alike : (k : ℕ) → ((j : ℕ) (c : DominoCell) → j < k → IsCellAt s j c → Alike j) → (g : Gate) → IsLeafOf s k g → value_of b (net (gate_net g)) ≡ value_of a (net (gate_net g))
    unfolding Alike
    leaf_alike k below (Plus l) i = sym (own_alike a b fa fb l i)
    leaf_alike k below (Minus l) i = sym (complement_alike a b fa fb l i)
    leaf_alike k below (FromOutput j) i = sym ((below j i.1.0 i.0 i.1.1).1)
    leaf_alike k below (FromDynamic j) i = absurd i
    leaf_alike k below High i = absurd i
    leaf_alike k below Low i = absurd i

    one_cell : (k : ℕ) (c : DominoCell) → IsCellAt s k c → ((j : ℕ) (d : DominoCell) → j < k → IsCellAt s j d → Alike j) → Alike k
    unfolding Alike
    one_cell k c e below = (dyn, out)
      where
        -- an up side that holds has the cell's bit of the own run
        held_alike : (side : Side) (d : DynamicStage) (i : IsSideAt s (record { cell = k; side = side }) d) → value_of a (net (Clock d.clock)) ≡ One → value_of b (net (Clock d.clock)) ≡ One
            → HasPreviousFallen up d.clock
            → value_of a (net (At (Dynamic (record { cell = k; side = side })) Top)) ≡ value_of b (net (At (Dynamic (record { cell = k; side = side })) Top))
        held_alike side d i on on' early =
            let may = previous_overlaps deck fa.frame d.clock (up_of deck fa.frame d.clock ((deck.shape).clocks_are _ d i) on) early in
            let x = simple_side s (are_simple deck may) (record { cell = k; side = side }) d i in
            let early' : HasPreviousFallen up (x.0).clock = subst (λ (y : DynamicStage). HasPreviousFallen up y.clock) (sym x.3) early in
            subst (λ (q : CellSide). value_of a (net (At (Dynamic q) Top)) ≡ value_of b (net (At (Dynamic q) Top))) (sym x.2)
            ((ra.honest.cells.held k x.0 x.1 (subst (λ (y : DynamicStage). value_of a (net (Clock y.clock)) ≡ One) (sym x.3) on) early').pair.0
            ∙ sym ((rb.honest.cells.held k x.0 x.1 (subst (λ (y : DynamicStage). value_of b (net (Clock y.clock)) ≡ One) (sym x.3) on') early').pair.0))

        dyn : (side : Side) (d : DynamicStage) → IsSideAt s (record { cell = k; side = side }) d
            → value_of a (net (At (Dynamic (record { cell = k; side = side })) Top)) ≡ value_of b (net (At (Dynamic (record { cell = k; side = side })) Top))
        dyn side d i =
            let clock = source_alike a b fa fb (Clock d.clock) ((deck.shape).clocks_are (record { cell = k; side = side }) d i) in
            elim (clock-known deck fa.frame (record { cell = k; side = side }) d i) [
              | inl z ↦ rest_precharged deck ra.honest ra.rest ra.range (record { cell = k; side = side }) d i z Top tt
                  ∙ sym (rest_precharged deck rb.honest rb.rest rb.range (record { cell = k; side = side }) d i (sym clock ∙ z) Top tt)
              | inr z ↦ elim (dec_previous up d.clock) [
                | inl early ↦ held_alike side d i z (sym clock ∙ z) early
                | inr free ↦ rest_dynamic deck ra.honest ra.rest ra.range (record { cell = k; side = side }) d i z free
                    ∙ (ap opposite (sym (tree_conduction-same nch (λ g. value_of b (net (gate_net g))) (λ g. value_of a (net (gate_net g))) d.tree
                    (EachLeaf-weaker _ (λ g. value_of b (net (gate_net g)) ≡ value_of a (net (gate_net g))) (leaf_alike k below) d.tree ((deck.shape).leaves (record { cell = k; side = side }) d i))))
                    ∙ sym (rest_dynamic deck rb.honest rb.rest rb.range (record { cell = k; side = side }) d i (sym clock ∙ z) free))
              ]
            ]

        out : value_of a (net (At (Output k) Top)) ≡ value_of b (net (At (Output k) Top))
        out =
            output_alike a b fa fb k c e
            (tree_conduction-same nch (λ x. value_of a (net x)) (λ x. value_of b (net x)) (dynamic_nets k c.right)
            (each_dynamic s (λ x. value_of a (net x) ≡ value_of b (net x)) k c e (λ d z side i. dyn side d i)))

    cells_alike : (m k : ℕ) (c : DominoCell) → k < m → IsCellAt s k c → Alike k
    cells_alike zero k c l e = absurd (omega arith)
    cells_alike (suc m) k c l e = one_cell k c e (λ j d lt f. cells_alike m j d (omega arith) f)

    cell_alike : (k : ℕ) (c : DominoCell) → IsCellAt s k c → Alike k
    cell_alike k c e = cells_alike (k + 1) k c (omega arith) e

    side_alike : (k : CellSide) (c : DynamicStage) → IsSideAt s k c → value_of a (net (At (Dynamic k) Top)) ≡ value_of b (net (At (Dynamic k) Top))
    unfolding Alike
    side_alike k c e = (cell_alike k.cell e.0 e.1).0 k.side c e

    gate_alike : (g : Gate) → IsGate s g → gate_value net s a g ≡ gate_value net s b g
    unfolding Alike
    gate_alike g i =
        tree_conduction-same nch (λ x. value_of a (net x)) (λ x. value_of b (net x)) (gate_tree s g)
        (gate_nets s (λ x. value_of a (net x) ≡ value_of b (net x)) (own_alike a b fa fb) (complement_alike a b fa fb) (λ k c e. (cell_alike k c e).1) side_alike
        (source_alike a b fa fb Vdd tt) (source_alike a b fa fb Vss tt) g i)

    part_alike : (part : Part) → IsPart s part → value_of a (net (At part Top)) ≡ value_of b (net (At part Top))
    unfolding Alike
    part_alike (Dynamic k) i = side_alike k i.0 i.1
    part_alike (Output k) i = (cell_alike k i.0 i.1).1
    part_alike (Complement l) i = complement_alike a b fa fb l i
    part_alike (Master j) i = master_rests a fa j i.0 i.1 ∙ sym (master_rests b fb j i.0 i.1)
    part_alike (Slave j) i = own_alike a b fa fb (FromLatch j) i
    part_alike (Next j) i = next_alike a b fa fb j i.0 i.1 (gate_alike (i.0).next ((deck.shape).nexts j i.0 i.1))
    part_alike (Sink x) i = sink_alike a b fa fb x i.0 i.1 (gate_alike i.0 ((deck.shape).outputs_are x i.0 i.1))

    -- so they agree on each net that gates a device
    pub main_alike : (n : ℕ) → IsMain net s n → value_of a n ≡ value_of b n
    main_alike n (inl (x, i, e)) = rw e (source_alike a b fa fb x i)
    main_alike n (inr (part, i, e)) = rw e (part_alike part i)
