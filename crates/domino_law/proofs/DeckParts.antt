-- The stages of a deck, and what is known of their values in an honest state.
use Rattle.std.specs.Prelude.{◌⊎◌, None, Option, Some}
use Rattle.std.proofs.Common.{Bool, List, [], false, inl, inr, refl, sym, true, ℕ, ◌+◌, ◌<◌, ◌∙◌, ◌≡◌, arith, suc, subst, zero}
use Rattle.dom_base.specs.Tri.{opposite}
use Rattle.dom_base.specs.declared.kind.Kind.TheVariants.{N as nch}
use Rattle.dom_base.specs.declared.tri.Tri.{Tri}
use Rattle.dom_base.specs.declared.tri.Tri.TheVariants.{One, Zero}
use Rattle.deck.specs.Paths.{DefiniteStrong}
use Rattle.deck.specs.Switches.{value_of}
use Rattle.deck.specs.declared.device.Device.{Device}
use Rattle.sp_network.specs.Known.{IsKnown}
use Rattle.sp_network.specs.Tree.{EachLeaf, Leaf, Series, inner_count, Tree}
use Rattle.sp_network.proofs.Known.{IsKnown-tree_conduction}
use Rattle.sp_network.proofs.TreeImages.{inner_count-map_tree}
use Rattle.domino_cell.specs.Stage.{Branch, Inside, IsSpot, IsStage, Spot, Top}
use Rattle.domino_cell.specs.Tapped.{IsTapped, Tap}
use Rattle.domino_cell.proofs.Untapped.{untapped}
use Rattle.port_runs.specs.Environment.{Place, bit, Precharge}
use Rattle.port_runs.specs.declared.clocking.Clocking.TheVariants.{Overlapping}
use Rattle.domino_law.specs.Branches.{HasBranches, dynamic, dynamic_taps, master, numbered, slave, static_branches}
use Rattle.domino_law.specs.Honest.{IsDynamicSpot, IsHonest, IsHonestFrame, cell_conduction, HasPreviousFallen, gate_value, static_value}
use Rattle.domino_law.specs.LooseDeck.{HoldsDeck, IsPart, IsSpotOf}
use Rattle.domino_law.specs.Nets.{At, Clock, Complement, Dynamic, FromDynamic, FromLatch, FromOutput, FromPin, Gate, High, Low, Master, Minus, Net, Next, Output, Part, Pin, Plus, DeckSignal, Sink, Slave, Vdd, Vss, gate_net, own, CellSide, Left, Right, Side, left_side}
use Rattle.domino_law.specs.Shape.{DominoCell, HasComplement, IsCellAt, IsGate, IsLatchAt, IsLeafOf, IsOutputAt, IsSignal, Latch, Shape, IsOfClocks, MayOverlap, DynamicStage, IsSideAt, dynamic_nets, gate_tree, right_stage, side_of}
use Rattle.domino_cell.specs.declared.style.Style.{Style}
use Rattle.domino_cell.specs.declared.style.Style.TheVariants.{Keeper as WithKeeper, Precharge as WithPrecharge}
use Rattle.domino_law.proofs.Leaves.{EachLeaf-weaker, EachLeaf-both, EachLeaf-where}
use Rattle.domino_law.proofs.Places.{bit-known, clock_known, slave_known, IsClockAt, clock_at}
use Rattle.domino_law.specs.Places.{ClockState, AfterFall, IsStateAt, Raised}
use Rattle.domino_law.proofs.ClockOrder.{raised_fallen, state_up}
use Rattle.domino_law.proofs.SimpleCells.{AreSimple, simple_side}
use Rattle.domino_law.proofs.Statics.{cell_gate, each_dynamic, gate_nets, known_conduction, leaf_net, left_is, side_clock}

-- each net of a gate that the deck names is Zero or One
abbrev pub AreKnownGates : (Net → ℕ) → Shape → List Tri → Type 0
AreKnownGates net s values = (g : Gate) → IsGate s g → EachLeaf (λ a. IsKnown (value_of values (net a))) (gate_tree s g)

-- so each gate has a known value
pub value-known : (net : Net → ℕ) (s : Shape) (values : List Tri) → AreKnownGates net s values → (g : Gate) → IsGate s g → IsKnown (gate_value net s values g)
value-known net s values gates g a = known_conduction (λ a. value_of values (net a)) (gate_tree s g) (gates g a)

-- and the dynamic nets of each cell
pub cell_value-known : (net : Net → ℕ) (s : Shape) (values : List Tri) → AreKnownGates net s values → (k : ℕ) (c : DominoCell) → IsCellAt s k c → IsKnown (static_value net values (dynamic_nets k c.right))
cell_value-known net s values gates k c e = rw (cell_gate s k c e) at (value-known net s values gates (FromDynamic k) (c, e))

pub zero_or_one : Zero ≡ One → ⊥
zero_or_one e = cc

pub opposite-known : (w : Tri) → IsKnown w → IsKnown (opposite w)
opposite-known w (inl e) = inr (rw e refl)
opposite-known w (inr e) = inl (rw e refl)

pub opposite_twice : (b : Bool) → opposite (opposite (bit b)) ≡ bit b
opposite_twice false = refl
opposite_twice true = refl

-- a leaf of a tree may gate a sink
pub leaf_is_gate : (s : Shape) (k : ℕ) (g : Gate) → IsLeafOf s k g → IsGate s g
leaf_is_gate s k (Plus l) a = a
leaf_is_gate s k (Minus l) a = a
leaf_is_gate s k (FromOutput j) a = a.1
leaf_is_gate s k (FromDynamic j) a = absurd a
leaf_is_gate s k High a = absurd a
leaf_is_gate s k Low a = absurd a

module _ {devices : List Device} {is_source : ℕ → Bool} {net : Net → ℕ} {s : Shape} (deck : HoldsDeck devices is_source net s) where
  pub dynamic_is : (k : CellSide) (c : DynamicStage) → IsSideAt s k c → IsTapped devices is_source (λ a. net (At (Dynamic k) a)) (dynamic s.style net k c) (dynamic_taps s.style net c)
  dynamic_is k c e = deck.stages (Dynamic k) (dynamic s.style net k c) (dynamic_taps s.style net c) (c, e, refl, refl)

  pub output_is : (k : ℕ) (c : DominoCell) → IsCellAt s k c → IsStage devices is_source (λ a. net (At (Output k) a)) (static_branches net (dynamic_nets k c.right))
  output_is k c e = untapped devices is_source (λ a. net (At (Output k) a)) (static_branches net (dynamic_nets k c.right)) (deck.stages (Output k) (static_branches net (dynamic_nets k c.right)) [] (c, e, refl, refl))

  pub complement_is : (l : DeckSignal) → HasComplement s l → IsStage devices is_source (λ a. net (At (Complement l) a)) (static_branches net (Leaf (own l)))
  complement_is l a = untapped devices is_source (λ b. net (At (Complement l) b)) (static_branches net (Leaf (own l))) (deck.stages (Complement l) (static_branches net (Leaf (own l))) [] (a, refl, refl))

  pub master_is : (j : ℕ) (b : Latch) → IsLatchAt s j b → IsStage devices is_source (λ a. net (At (Master j) a)) (master net j)
  master_is j b e = untapped devices is_source (λ a. net (At (Master j) a)) (master net j) (deck.stages (Master j) (master net j) [] (b, e, refl, refl))

  pub slave_is : (j : ℕ) (b : Latch) → IsLatchAt s j b → IsStage devices is_source (λ a. net (At (Slave j) a)) (slave net j b)
  slave_is j b e = untapped devices is_source (λ a. net (At (Slave j) a)) (slave net j b) (deck.stages (Slave j) (slave net j b) [] (b, e, refl, refl))

  pub next_is : (j : ℕ) (b : Latch) → IsLatchAt s j b → IsStage devices is_source (λ a. net (At (Next j) a)) (static_branches net (gate_tree s b.next))
  next_is j b e = untapped devices is_source (λ a. net (At (Next j) a)) (static_branches net (gate_tree s b.next)) (deck.stages (Next j) (static_branches net (gate_tree s b.next)) [] (b, e, refl, refl))

  pub sink_is : (i : ℕ) (g : Gate) → IsOutputAt s i g → IsStage devices is_source (λ a. net (At (Sink i) a)) (static_branches net (gate_tree s g))
  sink_is i g e = untapped devices is_source (λ a. net (At (Sink i) a)) (static_branches net (gate_tree s g)) (deck.stages (Sink i) (static_branches net (gate_tree s g)) [] (g, e, refl, refl))

  -- a part has branches
  pub branches_of : (part : Part) → IsPart s part → (bs : List Branch) × (taps : List Tap) × HasBranches s net part bs taps
  branches_of (Dynamic k) a = (dynamic s.style net k a.0, dynamic_taps s.style net a.0, (a.0, a.1, refl, refl))
  branches_of (Output k) a = (static_branches net (dynamic_nets k (a.0).right), [], (a.0, a.1, refl, refl))
  branches_of (Complement l) a = (static_branches net (Leaf (own l)), [], (a, refl, refl))
  branches_of (Master j) a = (master net j, [], (a.0, a.1, refl, refl))
  branches_of (Slave j) a = (slave net j a.0, [], (a.0, a.1, refl, refl))
  branches_of (Next j) a = (static_branches net (gate_tree s (a.0).next), [], (a.0, a.1, refl, refl))
  branches_of (Sink i) a = (static_branches net (gate_tree s a.0), [], (a.0, a.1, refl, refl))

  pub part-free : (part : Part) → IsPart s part → is_source (net (At part Top)) ≡ false
  part-free part a = let b = branches_of part a in (deck.stages part b.0 b.1 b.2).free Top tt

  -- a dynamic net is no source
  pub spot-free : (k : CellSide) (c : DynamicStage) → IsSideAt s k c → (a : Spot) → IsDynamicSpot s.style c a → is_source (net (At (Dynamic k) a)) ≡ false
  spot-free k c e a i = (dynamic_is k c e).free a (dynamic_spot s.style k c a i)
    where
      dynamic_spot : (style : Style) (k : CellSide) (c : DynamicStage) (a : Spot) → IsDynamicSpot style c a → IsSpot (dynamic style net k c) a
      dynamic_spot style k c Top i = tt
      dynamic_spot WithKeeper k c (Inside i j) p = absurd p
      dynamic_spot WithPrecharge k c (Inside i j) p =
          let z = inner_count-map_tree (λ g. net (gate_net g)) c.tree in
          rw p.0 (record { kind = nch; tree = Series (numbered net c.tree) (Leaf (net (Clock c.clock))); supply = net Vss }, refl, within j (inner_count (numbered net c.tree)) (inner_count c.tree) z p.2)
        where
          within : (j m n : ℕ) → m ≡ n → j < 1 + n → j < 1 + (m + 0)
          within j m n z l = omega arith

  -- and one of the deck
  pub spot_is : (k : CellSide) (c : DynamicStage) → IsSideAt s k c → (a : Spot) → IsDynamicSpot s.style c a → IsSpotOf s (Dynamic k) a
  spot_is k c e a i = by s.style a i
    where
      by : (style : Style) (a : Spot) → IsDynamicSpot style c a → IsSpotOf s (Dynamic k) a
      by style Top i = (c, e)
      by WithKeeper (Inside i j) p = absurd p
      by WithPrecharge (Inside i j) p = (c, e, p.0, p.2)

  -- where clocks may overlap each cell is simple
  pub are_simple : MayOverlap s → AreSimple s
  are_simple may k c e = (deck.shape).simple may.keepers k c e

  -- two parts with one net are one
  pub one_part : (p q : Part) → IsPart s p → IsPart s q → net (At p Top) ≡ net (At q Top) → p ≡ q
  one_part p q a b e = let z : At p Top ≡ At q Top = deck.apart (At p Top) (At q Top) a b e in cc

module _ {devices : List Device} {is_source : ℕ → Bool} {net : Net → ℕ} {s : Shape} (deck : HoldsDeck devices is_source net s)
    {place : Place} {up : ℕ → ClockState} {old new pins : ℕ → Bool} {keeps_at : ℕ → Tri} {before : List Tri}
    (frame : IsHonestFrame net s place up old new pins keeps_at before) where
  pub clocks_at : (i : ℕ) → i < s.clocks → IsClockAt place (value_of before (net (Clock i)))
  clocks_at i l = rw (frame.sources (Clock i) l) (clock_at place (up i) ((frame.clocks).at i))

  -- a clock that is up has risen and not fallen
  pub up_of : (i : ℕ) → i < s.clocks → value_of before (net (Clock i)) ≡ One → up i ≡ Raised
  up_of i l on = state_up (up i) (sym (frame.sources (Clock i) l) ∙ on)

  pub no_precharge : (i : ℕ) → up i ≡ Raised → place ≡ Precharge → ⊥
  no_precharge i r z = no place z ((frame.clocks).at i)
    where
      no : (pl : Place) → pl ≡ Precharge → IsStateAt pl (up i) → ⊥
      no Precharge z h = raised_fallen (sym r ∙ h)
      no _ z h = absurd (cc)

  -- beside a clock that is up one has fallen only where clocks may overlap
  pub overlaps : (i j : ℕ) → up i ≡ Raised → up j ≡ AfterFall → MayOverlap s
  overlaps i j r f = elim ((frame.clocks).early j f) [ inl z ↦ absurd (no_precharge i r z) | inr o ↦ (deck.shape).overlap o.0 ]

  pub previous_overlaps : (i : ℕ) → up i ≡ Raised → HasPreviousFallen up i → MayOverlap s
  previous_overlaps zero r f = absurd f
  previous_overlaps (suc j) r f = overlaps (suc j) j r f

  -- a cell that an up cell reads has a clock that has not fallen, unless the clock before the reader's has
  pub leaf_not_fallen : (i : ℕ) → up i ≡ Raised → (HasPreviousFallen up i → ⊥) → (j : ℕ) (d : DominoCell) → IsCellAt s j d
      → (s.clocking ≡ Overlapping → IsOfClocks s i (FromOutput j)) → up d.clock ≡ AfterFall → ⊥
  leaf_not_fallen i r free j d e near f =
      elim ((frame.clocks).early d.clock f) [
        | inl z ↦ no_precharge i r z
        | inr o ↦ elim (near o.0 d e) [
          | inl same ↦ raised_fallen (sym r ∙ (rw (← same) f))
          | inr next ↦ free (rw (← next) (before_next d.clock f))
        ]
      ]
    where
      before_next : (m : ℕ) → up m ≡ AfterFall → HasPreviousFallen up (m + 1)
      before_next m f = rw (plus_one m) f
        where
          plus_one : (m : ℕ) → m + 1 ≡ suc m
          plus_one m = omega arith

  -- what the leaves of a side are
  pub near_leaves : (k : CellSide) (c : DynamicStage) → IsSideAt s k c
      → EachLeaf (λ g. IsLeafOf s k.cell g × (s.clocking ≡ Overlapping → IsOfClocks s c.clock g)) c.tree
  near_leaves k c e =
      EachLeaf-both (IsLeafOf s k.cell) (λ g. s.clocking ≡ Overlapping → IsOfClocks s c.clock g) c.tree ((deck.shape).leaves k c e)
      (EachLeaf-where (s.clocking ≡ Overlapping) (IsOfClocks s c.clock) c.tree (λ o.
      let may = (deck.shape).overlap o in
      let x = simple_side s (are_simple deck may) k c e in
      subst (λ (y : DynamicStage). EachLeaf (IsOfClocks s y.clock) y.tree) x.3 (may.reads k.cell x.0 x.1)))

  pub own-known : (l : DeckSignal) → IsSignal s l → IsKnown (value_of before (net (own l)))
  own-known (FromPin p) a = rw (frame.sources (Pin p) a) (bit-known (pins p))
  own-known (FromLatch j) a = slave_known place (bit (old j)) (bit (new j)) _ (bit-known (old j)) (bit-known (new j)) (frame.slaves j a.0 a.1)

  pub clock-known : (k : CellSide) (c : DynamicStage) → IsSideAt s k c → IsKnown (value_of before (net (Clock c.clock)))
  clock-known k c e = clock_known place _ (clocks_at c.clock ((deck.shape).clocks_are k c e))

module _ {devices : List Device} {is_source : ℕ → Bool} {net : Net → ℕ} {s : Shape} (deck : HoldsDeck devices is_source net s)
    {place : Place} {up : ℕ → ClockState} {old new pins : ℕ → Bool} {keeps_at : ℕ → Tri} {before : List Tri}
    (h : IsHonest devices is_source net s place up old new pins keeps_at before) where
  known_clock : (k : CellSide) (c : DynamicStage) → IsSideAt s k c → IsKnown (value_of before (net (Clock c.clock)))
  known_clock = clock-known deck h.frame

  pub output-known : (k : ℕ) (c : DominoCell) → IsCellAt s k c → IsKnown (value_of before (net (At (Output k) Top)))
  output-known k c e =
      elim (known_clock (left_side k) _ (left_is s k c e)) [
        | inl z ↦ elim ((h.cells.outs k c e).idle z) [ inl p ↦ inl p.1 | inr p ↦ p.1 ]
        | inr z ↦ elim ((h.cells.outs k c e).evaluated z) [ inl p ↦ inl p | inr p ↦ inr p.0 ]
      ]

  pub dynamic-known : (k : CellSide) (c : DynamicStage) → IsSideAt s k c → IsKnown (value_of before (net (At (Dynamic k) Top)))
  dynamic-known k c e = (h.cells.sides k c e).spots_known Top tt

  pub gate-known : AreKnownGates net s before
  gate-known =
      gate_nets s (λ a. IsKnown (value_of before (net a))) (own-known deck h.frame) h.frame.complements
      output-known dynamic-known (inr (h.frame.sources Vdd tt)) (inl (h.frame.sources Vss tt))

  -- the dynamic nets of a cell, in series
  pub nets-known : (k : ℕ) (c : DominoCell) → IsCellAt s k c → EachLeaf (λ a. IsKnown (value_of before (net a))) (dynamic_nets k c.right)
  nets-known k c e = each_dynamic s (λ a. IsKnown (value_of before (net a))) k c e (λ d z side i. dynamic-known _ d i)

  pub series-known : (k : ℕ) (c : DominoCell) → IsCellAt s k c → IsKnown (static_value net before (dynamic_nets k c.right))
  series-known k c e = known_conduction (λ a. value_of before (net a)) (dynamic_nets k c.right) (nets-known k c e)

  pub known_leaves : (k : CellSide) (c : DynamicStage) → IsSideAt s k c → EachLeaf (λ g. IsKnown (value_of before (net (gate_net g)))) c.tree
  known_leaves k c e =
      EachLeaf-weaker _ (λ g. IsKnown (value_of before (net (gate_net g))))
      (λ g l. leaf_net s (λ a. IsKnown (value_of before (net a))) k.cell g l (gate-known g (leaf_is_gate s k.cell g l))) c.tree ((deck.shape).leaves k c e)

  pub known_tree : (k : CellSide) (c : DynamicStage) → IsSideAt s k c → IsKnown (cell_conduction net before c)
  known_tree k c e = IsKnown-tree_conduction nch (λ g. value_of before (net (gate_net g))) c.tree (known_leaves k c e)

  -- with its clock at 1, before the fall of the one before, each dynamic net of a side is One, or Zero by a definite strong path to ground
  pub spots_held : (k : CellSide) (c : DynamicStage) (e : IsSideAt s k c) → value_of before (net (Clock c.clock)) ≡ One → (HasPreviousFallen up c.clock → ⊥) → (a : Spot) → IsDynamicSpot s.style c a
      → (value_of before (net (At (Dynamic k) a)) ≡ One) ⊎ ((value_of before (net (At (Dynamic k) a)) ≡ Zero) × DefiniteStrong devices is_source before (net (At (Dynamic k) a)) (net Vss))
  spots_held k c e on free a i = elim ((h.cells.sides k c e).spots_known a i) [ inl z ↦ inr (z, (h.cells.sides k c e).pulled on free a i z) | inr o ↦ inl o ]

  -- and where the cell has a keeper and its dynamic net is One, its output is Zero
  pub output_low : (k : CellSide) (c : DynamicStage) (e : IsSideAt s k c) → value_of before (net (Clock c.clock)) ≡ One → s.style ≡ WithKeeper
      → value_of before (net (At (Dynamic k) Top)) ≡ One → value_of before (net (At (Output k.cell) Top)) ≡ Zero
  output_low k c e on keeper one = by k.side c (e.0).right e.2 on one ((deck.shape).simple keeper k.cell e.0 e.1) ((h.cells.outs k.cell e.0 e.1).evaluated (rw (← side_clock e.0 k.side c e.2) on))
    where
      by : (side : Side) (c : DynamicStage) (r : Option (Tree Gate)) → side_of e.0 side ≡ Some c → value_of before (net (Clock c.clock)) ≡ One
          → value_of before (net (At (Dynamic (record { cell = k.cell; side = side })) Top)) ≡ One → (e.0).right ≡ None
          → (value_of before (net (At (Output k.cell) Top)) ≡ Zero)
          ⊎ ((value_of before (net (At (Output k.cell) Top)) ≡ One) × (static_value net before (dynamic_nets k.cell (e.0).right) ≡ Zero))
          → value_of before (net (At (Output k.cell) Top)) ≡ Zero
      by side c r i on one z (inl low) = low
      by Left c r i on one z (inr q) = absurd (zero_or_one (sym (rw z at q.1) ∙ one))
      by Right c r i on one z (inr q) = absurd (no (rw z at i))
        where
          no : right_stage (e.0).clock None ≡ Some c → ⊥
          no x = cc
