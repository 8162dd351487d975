-- The dynamic nets and the domino outputs of a deck are the tops of its parts.
use Rattle.std.specs.List.{AllByRecursion}
use Rattle.std.specs.Prelude.{Contains, ◌≢◌, ◌⊎◌, Some}
use Rattle.std.proofs.Common.{Bool, List, [], ap, false, inl, inr, map, sym, true, ℕ, ◌<◌, ◌∙◌, ◌∷◌, ◌≡◌, subst}
use Rattle.dom_base.specs.declared.kind.Kind.TheVariants.{Keep, N as nch, P as pch}
use Rattle.dom_base.specs.declared.tri.Tri.{Tri}
use Rattle.dom_base.specs.declared.tri.Tri.TheVariants.{One, Zero}
use Rattle.dom_base.proofs.Lists.{AllByRecursion-contains, AllByRecursion-map}
use Rattle.dom_base.proofs.Bools.{never}
use Rattle.deck.specs.Paths.{Ends}
use Rattle.deck.specs.declared.device.Device.{Device}
use Rattle.deck.specs.NamedDevices.{device_of}
use Rattle.domino_cell.specs.Stage.{Branch, Spot, Top, stage}
use Rattle.domino_cell.specs.Tapped.{Tap, tapped}
use Rattle.domino_law.specs.Branches.{HasBranches, master, reset_branch, slave, static_branches}
use Rattle.domino_law.specs.Honest.{IsDynamicSpot}
use Rattle.domino_law.specs.LooseDeck.{HoldsDeck, IsNet, IsPart, IsSourceNet}
use Rattle.domino_law.specs.Nets.{At, Clock, Complement, Dynamic, FromDynamic, FromLatch, FromOutput, FromPin, Gate, High, Lmb, Low, Lsb, Master, Minus, Net, Next, Output, Part, Pin, Plus, Rsb, Sink, Slave, Vdd, Vss, own, CellSide, DeckSignal}
use Rattle.domino_law.specs.Shape.{DominoCell, IsCellAt, IsGate, IsLatchAt, IsOutputAt, Latch, Shape, DynamicStage, IsSideAt, IsSignal, dynamic_nets, gate_tree}
use Rattle.domino_law.proofs.DeckParts.{one_part, part-free, spot-free, spot_is}
use Rattle.domino_law.proofs.DynamicDevices.{dynamic_devices, untap_as, static_devices}
use Rattle.domino_law.proofs.GateNets.{gates_are_main}
use Rattle.sp_network.specs.Tree.{EachLeaf, Leaf, Tree}
use Rattle.domino_law.proofs.Leaves.{EachLeaf-weaker}
use Rattle.domino_law.proofs.Statics.{IsSeries, dynamic_series, each_dynamic, gate_nets, gate_series, side_clock}

-- a dynamic net of a side of a cell of clock i, the cell's output, and a static gate that its dynamic nets gate
pub data IsDomino (s : Shape) (i : ℕ) : Part → Spot → Tri → Type 0 where
  falls : {k : CellSide} {c : DynamicStage} {a : Spot} → IsSideAt s k c → c.clock ≡ i → IsDynamicSpot s.style c a → IsDomino s i (Dynamic k) a Zero
  rises_output : {k : ℕ} {c : DominoCell} → IsCellAt s k c → c.clock ≡ i → IsDomino s i (Output k) Top One
  rises_next : {j : ℕ} {k : ℕ} {b : Latch} → IsLatchAt s j b → b.next ≡ FromDynamic k → ((c : DominoCell) → IsCellAt s k c → c.clock ≡ i) → IsDomino s i (Next j) Top One
  rises_sink : {j : ℕ} {k : ℕ} {g : Gate} → IsOutputAt s j g → g ≡ FromDynamic k → ((c : DominoCell) → IsCellAt s k c → c.clock ≡ i) → IsDomino s i (Sink j) Top One

module _ {devices : List Device} {is_source : ℕ → Bool} {net : Net → ℕ} {s : Shape} (deck : HoldsDeck devices is_source net s) where
  part_no_source : (part : Part) → IsPart s part → (a : Net) → IsSourceNet s a → net (At part Top) ≡ net a → ⊥
  part_no_source part p a i e = never {b = is_source (net a)} (deck.sources a i) (rw e at (part-free deck part p))

  -- what holds of the cards of the branches holds of a device of a stage
  stage_device : (F : Device → Type 0) (at : Spot → ℕ) (bs : List Branch) → AllByRecursion (λ c. F (device_of c)) (stage at 0 bs)
      → (d : Device) → Contains (map device_of (stage at 0 bs)) d → F d
  stage_device F at bs h d c = AllByRecursion-contains F (map device_of (stage at 0 bs)) d (AllByRecursion-map F device_of (stage at 0 bs) h) c

  nch_no_pch : nch ≡ pch → ⊥
  nch_no_pch e = cc

  keep_no_pch : Keep ≡ pch → ⊥
  keep_no_pch e = cc

  -- the top of a stage, by a device from it to vdd
  top_by : (part : Part) → IsPart s part → (n : ℕ) → ((net (At part Top) ≡ n) × (net Vdd ≡ net Vdd)) ⊎ ((net Vdd ≡ n) × (net (At part Top) ≡ net Vdd)) → n ≡ net (At part Top)
  top_by part a n (inl e) = sym e.0
  top_by part a n (inr e) = absurd (part_no_source part a Vdd tt e.1)

  spot_by : (k : CellSide) (c : DynamicStage) → IsSideAt s k c → (a : Spot) → IsDynamicSpot s.style c a → (n : ℕ)
      → ((net (At (Dynamic k) a) ≡ n) × (net Vdd ≡ net Vdd)) ⊎ ((net Vdd ≡ n) × (net (At (Dynamic k) a) ≡ net Vdd)) → n ≡ net (At (Dynamic k) a)
  spot_by k c e a x n (inl w) = sym w.0
  spot_by k c e a x n (inr w) = absurd (never {b = is_source (net Vdd)} (deck.sources Vdd tt) (rw w.1 at (spot-free deck k c e a x)))

  -- of the dynamic nets of a cell the top alone gates devices
  pub gating_spot : (k : CellSide) (c : DynamicStage) → IsSideAt s k c → (a : Spot) → IsDynamicSpot s.style c a → (d : Device) → Contains devices d → d.gate ≡ net (At (Dynamic k) a) → a ≡ Top
  gating_spot k c e a x d m g =
      elim (gates_are_main deck d m) [
        | inl w ↦ absurd (never {b = is_source (net w.0)} (deck.sources w.0 w.1) (rw (sym g ∙ w.2) at (spot-free deck k c e a x)))
        | inr w ↦ let z : At w.0 Top ≡ At (Dynamic k) a = deck.apart (At w.0 Top) (At (Dynamic k) a) w.1 (spot_is deck k c e a x) (sym w.2 ∙ g) in cc
      ]

  module _ (n i : ℕ) (l : i < s.clocks) where
    -- a pch that clock i gates joins n to vdd: n is a dynamic net of a cell
    Clocked : Device → Type 0
    Clocked d = d.kind ≡ pch → d.gate ≡ net (Clock i) → Ends d n (net Vdd)
        → (k : CellSide) × (c : DynamicStage) × IsSideAt s k c × (a : Spot) × IsDynamicSpot s.style c a × (n ≡ net (At (Dynamic k) a)) × (c.clock ≡ i)

    IsNoClock : Net → Type 0
    IsNoClock a = net a ≡ net (Clock i) → ⊥

    gate_no_clock : (g : Gate) → IsGate s g → EachLeaf IsNoClock (gate_tree s g)
    unfolding IsNoClock
    gate_no_clock =
        gate_nets s IsNoClock signal (λ x a. part_no_source (Complement x) a (Clock i) l) (λ k c e. part_no_source (Output k) (c, e) (Clock i) l)
        (λ k c e. part_no_source (Dynamic k) (c, e) (Clock i) l)
        (λ e. let z : Vdd ≡ Clock i = deck.apart Vdd (Clock i) tt l e in cc) (λ e. let z : Vss ≡ Clock i = deck.apart Vss (Clock i) tt l e in cc)
      where
        signal : (x : DeckSignal) → IsSignal s x → net (own x) ≡ net (Clock i) → ⊥
        signal (FromPin p) a e = let z : Pin p ≡ Clock i = deck.apart (Pin p) (Clock i) a l e in cc
        signal (FromLatch j) a e = part_no_source (Slave j) a (Clock i) l e

    -- no static gate has such a device
    static_clocked : (part : Part) (t : Tree Net) → IsSeries t → EachLeaf IsNoClock t → (d : Device) → Contains (map device_of (stage (λ a. net (At part a)) 0 (static_branches net t))) d → Clocked d
    unfolding Clocked IsNoClock
    static_clocked part t series apart =
        static_devices net Clocked (λ a. net (At part a)) t series (λ d y z. absurd (nch_no_pch (sym y ∙ z)))
        (EachLeaf-weaker _ (λ a. Clocked (record { kind = pch; drain = net (At part Top); gate = net a; source = net Vdd })) (λ a f z g y. absurd (f g)) t apart)

    source_no_clock : (a : Net) → IsSourceNet s a → ((j : ℕ) → a ≢ Clock j) → IsNet s a → net a ≡ net (Clock i) → ⊥
    source_no_clock a f ne m e = ne i (deck.apart a (Clock i) m l e)

    clocked_part : (part : Part) (bs : List Branch) (taps : List Tap) → HasBranches s net part bs taps → (d : Device) → Contains (map device_of (tapped (λ a. net (At part a)) bs taps)) d → Clocked d
    unfolding Clocked IsNoClock
    clocked_part (Dynamic k) bs taps (c, e, z, w) d m =
        dynamic_devices net Clocked s.style (λ a. net (At (Dynamic k) a)) k c (λ d y t. absurd (nch_no_pch (sym y ∙ t)))
        (λ a x t g y. (k, c, e, a, x, spot_by k c e a x n y, clock_is k c e g)) (λ y t. absurd (keep_no_pch t)) d (rw (z, w) at m)
      where
        clock_is : (k : CellSide) (c : DynamicStage) → IsSideAt s k c → net (Clock c.clock) ≡ net (Clock i) → c.clock ≡ i
        clock_is k c e g = let y : Clock c.clock ≡ Clock i = deck.apart (Clock c.clock) (Clock i) ((deck.shape).clocks_are k c e) l g in cc
    clocked_part (Output k) bs taps (c, e, z, w) d m =
        static_clocked (Output k) (dynamic_nets k c.right) (dynamic_series k c.right) (each_dynamic s IsNoClock k c e (λ f y side i. part_no_source (Dynamic _) (f, i) (Clock _) l)) d
        (untap_as (λ a. net (At (Output k) a)) bs (static_branches net (dynamic_nets k c.right)) taps d z w m)
    clocked_part (Complement x) bs taps (e, z, w) d m =
        static_clocked (Complement x) (Leaf (own x)) tt (gate_no_clock (Plus x) ((deck.shape).complements_are x e)) d
        (untap_as (λ a. net (At (Complement x) a)) bs (static_branches net (Leaf (own x))) taps d z w m)
    clocked_part (Master j) bs taps (b, e, z, w) d m =
        stage_device Clocked (λ a. net (At (Master j) a)) (master net j) (
          (λ t g y. absurd (source_no_clock Lmb tt (λ v w. cc) tt g)),
          (
            (λ t g y. absurd (part_no_source (Next j) (b, e) (Clock i) l g)),
            ((λ t g y. absurd (nch_no_pch t)), ((λ t g y. absurd (nch_no_pch t)), tt)),
          ),
        ) d (untap_as (λ a. net (At (Master j) a)) bs (master net j) taps d z w m)
    clocked_part (Slave j) bs taps (b, e, z, w) d m =
        stage_device Clocked (λ a. net (At (Slave j) a)) (slave net j b) (
          (λ t g y. absurd (source_no_clock Lsb tt (λ v w. cc) tt g)),
          (
            (λ t g y. absurd (part_no_source (Master j) (b, e) (Clock i) l g)),
            ((λ t g y. absurd (nch_no_pch t)), ((λ t g y. absurd (nch_no_pch t)), reset b.init)),
          ),
        ) d (untap_as (λ a. net (At (Slave j) a)) bs (slave net j b) taps d z w m)
      where
        reset : (v : Bool) → AllByRecursion (λ c. Clocked (device_of c)) (stage (λ a. net (At (Slave j) a)) 2 (reset_branch net v ∷ []))
        reset false = ((λ t g y. absurd (nch_no_pch t)), tt)
        reset true = ((λ t g y. absurd (source_no_clock Rsb tt (λ v w. cc) tt g)), tt)
    clocked_part (Next j) bs taps (b, e, z, w) d m =
        static_clocked (Next j) (gate_tree s b.next) (gate_series s b.next) (gate_no_clock b.next ((deck.shape).nexts j b e)) d
        (untap_as (λ a. net (At (Next j) a)) bs (static_branches net (gate_tree s b.next)) taps d z w m)
    clocked_part (Sink x) bs taps (f, e, z, w) d m =
        static_clocked (Sink x) (gate_tree s f) (gate_series s f) (gate_no_clock f ((deck.shape).outputs_are x f e)) d
        (untap_as (λ a. net (At (Sink x) a)) bs (static_branches net (gate_tree s f)) taps d z w m)

    pub clocked_device : (d : Device) → Contains devices d → d.kind ≡ pch → d.gate ≡ net (Clock i) → Ends d n (net Vdd)
        → (k : CellSide) × (c : DynamicStage) × IsSideAt s k c × (a : Spot) × IsDynamicSpot s.style c a × (n ≡ net (At (Dynamic k) a)) × (c.clock ≡ i)
    unfolding Clocked
    clocked_device d c = let w = deck.whole d c in clocked_part w.0 w.1 w.2 w.3 d w.4

  module _ (n : ℕ) (q : CellSide) (cell' : DynamicStage) (at' : IsSideAt s q cell') where
    -- a pch that the dynamic net of side q gates joins n to vdd: n is a domino output
    Gated : Device → Type 0
    Gated d = d.kind ≡ pch → d.gate ≡ net (At (Dynamic q) Top) → Ends d n (net Vdd) → (part : Part) × IsPart s part × IsDomino s cell'.clock part Top One × (n ≡ net (At part Top))

    part_other : (part : Part) → IsPart s part → (part ≢ Dynamic q) → net (At part Top) ≡ net (At (Dynamic q) Top) → ⊥
    part_other part a ne e = ne (one_part deck part (Dynamic q) a (cell', at') e)

    source_other : (a : Net) → IsSourceNet s a → net a ≡ net (At (Dynamic q) Top) → ⊥
    source_other a i e = part_no_source (Dynamic q) (cell', at') a i (sym e)

    -- the side has the clock of the cell at its place
    only_cell : (c : DominoCell) → IsCellAt s q.cell c → c.clock ≡ cell'.clock
    only_cell c e =
        let y : Some c ≡ Some at'.0 = sym e ∙ at'.1 in
        let w : c ≡ at'.0 = cc in ap (λ (d : DominoCell). d.clock) w ∙ sym (side_clock at'.0 q.side cell' at'.2)

    -- a sink whose gate has that net
    sink_gate : (g : Gate) → IsGate s g → EachLeaf (λ a. net a ≡ net (At (Dynamic q) Top) → g ≡ FromDynamic q.cell) (gate_tree s g)
    sink_gate (Plus (FromPin p)) a = λ e. absurd (source_other (Pin p) a e)
    sink_gate (Plus (FromLatch j)) a = λ e. absurd (part_other (Slave j) a (λ z. cc) e)
    sink_gate (Minus x) a = λ e. absurd (part_other (Complement x) a (λ z. cc) e)
    sink_gate (FromOutput k) a = λ e. absurd (part_other (Output k) a (λ z. cc) e)
    sink_gate (FromDynamic k) a =
        rw (a.1) (each_dynamic s (λ x. net x ≡ net (At (Dynamic q) Top) → FromDynamic k ≡ FromDynamic q.cell) k a.0 a.1 (λ d y side i e.
        let z : Dynamic (record { cell = k; side = side }) ≡ Dynamic q = one_part deck (Dynamic (record { cell = k; side = side })) (Dynamic q) (d, i) (cell', at') e in
        let y : record { cell = k; side = side } ≡ q = cc in ap (λ x. FromDynamic x.cell) y))
    sink_gate High a = λ e. absurd (source_other Vdd tt e)
    sink_gate Low a = λ e. absurd (source_other Vss tt e)

    static_gated : (part : Part) (t : Tree Net) → IsSeries t → IsPart s part → EachLeaf (λ a. net a ≡ net (At (Dynamic q) Top) → IsDomino s cell'.clock part Top One) t
        → (d : Device) → Contains (map device_of (stage (λ a. net (At part a)) 0 (static_branches net t))) d → Gated d
    unfolding Gated
    static_gated part t series p domino =
        static_devices net Gated (λ a. net (At part a)) t series (λ d y z. absurd (nch_no_pch (sym y ∙ z)))
        (EachLeaf-weaker _ (λ a. Gated (record { kind = pch; drain = net (At part Top); gate = net a; source = net Vdd })) (λ a f z g y. (part, p, f g, top_by part p n y)) t domino)

    gated_part : (part : Part) (bs : List Branch) (taps : List Tap) → HasBranches s net part bs taps → (d : Device) → Contains (map device_of (tapped (λ a. net (At part a)) bs taps)) d → Gated d
    unfolding Gated
    gated_part (Dynamic k) bs taps (c, e, z, w) d m =
        dynamic_devices net Gated s.style (λ a. net (At (Dynamic k) a)) k c (λ d y t. absurd (nch_no_pch (sym y ∙ t)))
        (λ a x t g y. absurd (source_other (Clock c.clock) ((deck.shape).clocks_are k c e) g)) (λ y t. absurd (keep_no_pch t)) d (rw (z, w) at m)
    gated_part (Output k) bs taps (c, e, z, w) d m =
        static_gated (Output k) (dynamic_nets k c.right) (dynamic_series k c.right) (c, e) (each_dynamic s (λ a. net a ≡ net (At (Dynamic q) Top) → IsDomino s cell'.clock (Output k) Top One) k c e (λ f y side i g.
        let z : Dynamic (record { cell = k; side = side }) ≡ Dynamic q = one_part deck (Dynamic (record { cell = k; side = side })) (Dynamic q) (f, i) (cell', at') g in
        let w : record { cell = k; side = side } ≡ q = cc in rises_output e (only_cell c (subst (λ m. IsCellAt s m c) (ap (λ x. x.cell) w) e)))) d
        (untap_as (λ a. net (At (Output k) a)) bs (static_branches net (dynamic_nets k c.right)) taps d z w m)
    gated_part (Complement x) bs taps (e, z, w) d m =
        static_gated (Complement x) (Leaf (own x)) tt e (λ g. absurd (no (sink_gate (Plus x) ((deck.shape).complements_are x e) g))) d
        (untap_as (λ a. net (At (Complement x) a)) bs (static_branches net (Leaf (own x))) taps d z w m)
      where
        no : Plus x ≡ FromDynamic q.cell → ⊥
        no e = cc
    gated_part (Master j) bs taps (b, e, z, w) d m =
        stage_device Gated (λ a. net (At (Master j) a)) (master net j) (
          (λ t g y. absurd (source_other Lmb tt g)),
          (
            (λ t g y. absurd (part_other (Next j) (b, e) (λ z. cc) g)),
            ((λ t g y. absurd (nch_no_pch t)), ((λ t g y. absurd (nch_no_pch t)), tt)),
          ),
        ) d (untap_as (λ a. net (At (Master j) a)) bs (master net j) taps d z w m)
    gated_part (Slave j) bs taps (b, e, z, w) d m =
        stage_device Gated (λ a. net (At (Slave j) a)) (slave net j b) (
          (λ t g y. absurd (source_other Lsb tt g)),
          (
            (λ t g y. absurd (part_other (Master j) (b, e) (λ z. cc) g)),
            ((λ t g y. absurd (nch_no_pch t)), ((λ t g y. absurd (nch_no_pch t)), reset b.init)),
          ),
        ) d (untap_as (λ a. net (At (Slave j) a)) bs (slave net j b) taps d z w m)
      where
        reset : (v : Bool) → AllByRecursion (λ c. Gated (device_of c)) (stage (λ a. net (At (Slave j) a)) 2 (reset_branch net v ∷ []))
        reset false = ((λ t g y. absurd (nch_no_pch t)), tt)
        reset true = ((λ t g y. absurd (source_other Rsb tt g)), tt)
    gated_part (Next j) bs taps (b, e, z, w) d m =
        static_gated (Next j) (gate_tree s b.next) (gate_series s b.next) (b, e)
        (EachLeaf-weaker _ (λ a. net a ≡ net (At (Dynamic q) Top) → IsDomino s cell'.clock (Next j) Top One) (λ a f g. rises_next e (f g) only_cell) (gate_tree s b.next) (sink_gate b.next ((deck.shape).nexts j b e))) d
        (untap_as (λ a. net (At (Next j) a)) bs (static_branches net (gate_tree s b.next)) taps d z w m)
    gated_part (Sink x) bs taps (f, e, z, w) d m =
        static_gated (Sink x) (gate_tree s f) (gate_series s f) (f, e)
        (EachLeaf-weaker _ (λ a. net a ≡ net (At (Dynamic q) Top) → IsDomino s cell'.clock (Sink x) Top One) (λ a h g. rises_sink e (h g) only_cell) (gate_tree s f) (sink_gate f ((deck.shape).outputs_are x f e))) d
        (untap_as (λ a. net (At (Sink x) a)) bs (static_branches net (gate_tree s f)) taps d z w m)

    pub gated_device : (d : Device) → Contains devices d → d.kind ≡ pch → d.gate ≡ net (At (Dynamic q) Top) → Ends d n (net Vdd)
        → (part : Part) × IsPart s part × IsDomino s cell'.clock part Top One × (n ≡ net (At part Top))
    unfolding Gated
    gated_device d c = let w = deck.whole d c in gated_part w.0 w.1 w.2 w.3 d w.4
