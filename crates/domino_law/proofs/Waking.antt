-- From power to the rest of reset each part takes one known value, once.
use Rattle.std.specs.Prelude.{None, Option, Some, slice_get, ◌≢◌, ◌⊎◌}
use Rattle.std.proofs.Common.{Bool, List, inl, inr, refl, sym, ℕ, ◌∙◌, ◌≡◌}
use Rattle.dom_base.specs.Tri.{opposite}
use Rattle.dom_base.specs.declared.tri.Tri.{Tri}
use Rattle.dom_base.specs.declared.tri.Tri.TheVariants.{One, Unknown, Zero}
use Rattle.deck.specs.Switches.{value_of}
use Rattle.deck.specs.declared.device.Device.{Device}
use Rattle.sp_network.specs.Known.{IsKnown}
use Rattle.domino_cell.specs.Stage.{IsStage, Top}
use Rattle.dom_base.proofs.Decided.{dec_nat}
use Rattle.dom_base.proofs.Bools.{never}
use Rattle.port_runs.specs.Environment.{Reset, bit}
use Rattle.domino_law.specs.Branches.{static_branches}
use Rattle.domino_law.specs.LooseDeck.{HoldsDeck, IsPart}
use Rattle.domino_law.specs.Nets.{At, Clock, Complement, Dynamic, FromDynamic, FromLatch, FromOutput, FromPin, Gate, High, Lm, Lmb, Low, Ls, Lsb, Master, Minus, Net, Next, Output, Part, Pin, Plus, Rs, Rsb, DeckSignal, Sink, Slave, Vdd, Vss, CellSide}
use Rattle.domino_law.specs.Places.{AreSources}
use Rattle.domino_law.specs.Shape.{DominoCell, HasComplement, IsCellAt, IsGate, IsLatchAt, IsOutputAt, IsSignal, Latch, Shape, DynamicStage, IsSideAt, dynamic_nets, gate_tree}
use Rattle.domino_law.proofs.DeckParts.{complement_is, dynamic_is, master_is, next_is, opposite-known, output_is, sink_is, slave_is}
use Rattle.domino_law.proofs.NetEvents.{NextEvent, after_next, kept_at, moved_to, no_event, now_at, source_kept, stays_at_target}
use Rattle.domino_law.proofs.Parts.{master_held, precharges, slave_reset, static_target, static_unknown}
use Rattle.domino_law.proofs.Places.{bit-known}
use Rattle.sp_network.specs.Tree.{EachLeaf, Tree, both}
use Rattle.domino_law.specs.Honest.{gate_value, static_value}
use Rattle.domino_law.proofs.Statics.{EachLeaf-with, cell_gate, each_dynamic, left_is, right_is, tree_all}

module _ {devices : List Device} {is_source : ℕ → Bool} {net : Net → ℕ} {s : Shape} (deck : HoldsDeck devices is_source net s) (risen : ℕ) (fallen : ℕ → Bool) (pins : ℕ → Bool) where
  -- the value of a signal and of a gate at the rest of reset
  abbrev pub wake_latch : Option Latch → Tri
  wake_latch None = Unknown
  wake_latch (Some b) = bit b.init

  abbrev pub wake_own : DeckSignal → Tri
  wake_own (FromPin p) = bit (pins p)
  wake_own (FromLatch j) = wake_latch (slice_get s.latches j)

  abbrev pub wake_gate : Gate → Tri
  wake_gate (Plus l) = wake_own l
  wake_gate (Minus l) = opposite (wake_own l)
  wake_gate (FromOutput k) = Zero
  wake_gate (FromDynamic k) = One
  wake_gate High = One
  wake_gate Low = Zero

  -- the value that an event gives a part
  abbrev pub wake_goal : (part : Part) → IsPart s part → Tri
  wake_goal (Dynamic k) a = One
  wake_goal (Output k) a = Zero
  wake_goal (Complement l) a = opposite (wake_own l)
  wake_goal (Master j) a = Unknown
  wake_goal (Slave j) a = wake_own (FromLatch j)
  wake_goal (Next j) a = opposite (wake_gate (a.0).next)
  wake_goal (Sink i) a = opposite (wake_gate a.0)

  -- the nets of the gate have their value
  abbrev pub HasWoken : List Tri → Gate → Type 0
  HasWoken values g = EachLeaf (λ a. value_of values (net a) ≡ wake_gate g) (gate_tree s g)

  -- a static gate is Unknown, or it has its value and its gate has its own
  abbrev pub Awakes : List Tri → Part → Gate → Tri → Type 0
  Awakes values part g goal = (value_of values (net (At part Top)) ≡ Unknown) ⊎ ((value_of values (net (At part Top)) ≡ goal) × HasWoken values g)

  pub record IsAwaking (values : List Tri) : Type 0 where
    pub sources : AreSources net s Reset risen fallen pins values
    pub masters : (j : ℕ) (b : Latch) → IsLatchAt s j b → value_of values (net (At (Master j) Top)) ≡ Unknown
    pub dynamics : (k : CellSide) (c : DynamicStage) → IsSideAt s k c → (value_of values (net (At (Dynamic k) Top)) ≡ Unknown) ⊎ (value_of values (net (At (Dynamic k) Top)) ≡ One)
    pub slaves : (j : ℕ) (b : Latch) → IsLatchAt s j b → (value_of values (net (At (Slave j) Top)) ≡ Unknown) ⊎ (value_of values (net (At (Slave j) Top)) ≡ wake_own (FromLatch j))
    pub cell_outputs : (k : ℕ) (c : DominoCell) → IsCellAt s k c → Awakes values (Output k) (FromDynamic k) Zero
    pub complements : (l : DeckSignal) → HasComplement s l → Awakes values (Complement l) (Plus l) (opposite (wake_own l))
    pub nexts : (j : ℕ) (b : Latch) → IsLatchAt s j b → Awakes values (Next j) b.next (opposite (wake_gate b.next))
    pub outputs : (i : ℕ) (g : Gate) → IsOutputAt s i g → Awakes values (Sink i) g (opposite (wake_gate g))

  first_of : (values : List Tri) (part : Part) (g : Gate) (goal : Tri) → Awakes values part g goal
      → (value_of values (net (At part Top)) ≡ Unknown) ⊎ (value_of values (net (At part Top)) ≡ goal)
  first_of values part g goal (inl e) = inl e
  first_of values part g goal (inr e) = inr e.0

  cell_output : (k : ℕ) (c : DominoCell) → IsCellAt s k c → IsStage devices is_source (λ a. net (At (Output k) a)) (static_branches net (gate_tree s (FromDynamic k)))
  cell_output k c e = rw (cell_gate s k c e) (output_is deck k c e)

  wake_own-known : (l : DeckSignal) → IsSignal s l → IsKnown (wake_own l)
  wake_own-known (FromPin p) a = bit-known (pins p)
  wake_own-known (FromLatch j) a = rw a.1 (bit-known (a.0).init)

  wake_gate-known : (g : Gate) → IsGate s g → IsKnown (wake_gate g)
  wake_gate-known (Plus l) a = wake_own-known l a
  wake_gate-known (Minus l) a = opposite-known _ (wake_own-known l ((deck.shape).complements_are l a))
  wake_gate-known (FromOutput k) a = inl refl
  wake_gate-known (FromDynamic k) a = inr refl
  wake_gate-known High a = inr refl
  wake_gate-known Low a = inl refl

  module _ (before : List Tri) (h : IsAwaking before) where
    -- a gate is Unknown, or it has its value
    gate_wakes : (g : Gate) → IsGate s g → (gate_value net s before g ≡ Unknown) ⊎ HasWoken before g
    gate_wakes (Plus (FromPin p)) a = inr (h.sources (Pin p) a)
    gate_wakes (Plus (FromLatch j)) a = h.slaves j a.0 a.1
    gate_wakes (Minus l) a = first_of before (Complement l) (Plus l) _ (h.complements l a)
    gate_wakes (FromOutput k) a = first_of before (Output k) (FromDynamic k) _ (h.cell_outputs k a.0 a.1)
    gate_wakes (FromDynamic k) a = rw (cell_gate s k a.0 a.1) (by (a.0).right refl)
      where
        two : (x y : Tri) → (x ≡ Unknown) ⊎ (x ≡ One) → (y ≡ Unknown) ⊎ (y ≡ One) → (both x y ≡ Unknown) ⊎ ((x ≡ One) × (y ≡ One))
        two x y (inl p) (inl q) = inl (rw (p, q) refl)
        two x y (inl p) (inr q) = inl (rw (p, q) refl)
        two x y (inr p) (inl q) = inl (rw (p, q) refl)
        two x y (inr p) (inr q) = inr (p, q)

        by : (r : Option (Tree Gate)) → (a.0).right ≡ r → (static_value net before (dynamic_nets k r) ≡ Unknown) ⊎ EachLeaf (λ x. value_of before (net x) ≡ One) (dynamic_nets k r)
        by None z = h.dynamics _ _ (left_is s k a.0 a.1)
        by (Some t) z = two _ _ (h.dynamics _ _ (left_is s k a.0 a.1)) (h.dynamics _ _ (right_is s k a.0 t a.1 z))
    gate_wakes High a = inr (h.sources Vdd tt)
    gate_wakes Low a = inr (h.sources Vss tt)

    module _ (event : NextEvent devices is_source before) where
      -- an event of a static gate gives it its value, and its gate has its own
      static_wakes : (part : Part) (g : Gate) (goal : Tri) → IsGate s g → IsStage devices is_source (λ a. net (At part a)) (static_branches net (gate_tree s g)) → goal ≡ opposite (wake_gate g)
          → Awakes before part g goal → net (At part Top) ≡ event.net → (event.value ≡ goal) × HasWoken before g
      static_wakes part g goal a is z k m =
          elim (gate_wakes g a) [
            | inr e ↦
                let w : gate_value net s before g ≡ wake_gate g = tree_all (λ a. value_of before (net a)) (wake_gate g) (gate_tree s g) e in (
                  moved_to event (net (At part Top)) (opposite (gate_value net s before g)) m
                      (static_target devices is_source net before (h.sources Vdd tt) (h.sources Vss tt) (λ b. net (At part b)) (gate_tree s g) is (rw w (wake_gate-known g a)))
                      ∙ (rw w (sym z)),
                  e,
                )
            | inl e ↦ absurd (elim k [
              | inl u ↦ event.pending.2 ((rw m at u) ∙ sym (moved_to event (net (At part Top)) Unknown m (static_unknown devices is_source net before (h.sources Vdd tt) (h.sources Vss tt) (λ b. net (At part b)) (gate_tree s g) is e)))
              | inr u ↦ unknown (wake_gate g) (wake_gate-known g a) (sym (tree_all (λ a. value_of before (net a)) (wake_gate g) (gate_tree s g) u.1) ∙ e)
            ])
          ]
        where
          unknown : (w : Tri) → IsKnown w → w ≡ Unknown → ⊥
          unknown w (inl x) y = let z : Zero ≡ Unknown = sym x ∙ y in cc
          unknown w (inr x) y = let z : One ≡ Unknown = sym x ∙ y in cc

      dynamic_wakes : (k : CellSide) (c : DynamicStage) → IsSideAt s k c → net (At (Dynamic k) Top) ≡ event.net → event.value ≡ One
      dynamic_wakes k c e m =
          moved_to event (net (At (Dynamic k) Top)) One m
          (precharges devices is_source net before (h.sources Vdd tt) (h.sources Vss tt) s.style (λ a. net (At (Dynamic k) a)) k c (dynamic_is deck k c e) (h.sources (Clock c.clock) ((deck.shape).clocks_are k c e)))

      slave_wakes : (j : ℕ) (b : Latch) → IsLatchAt s j b → net (At (Slave j) Top) ≡ event.net → event.value ≡ wake_own (FromLatch j)
      slave_wakes j b e m =
          rw e (moved_to event (net (At (Slave j) Top)) (bit b.init) m
          (slave_reset devices is_source net before (h.sources Vdd tt) (h.sources Vss tt) (λ a. net (At (Slave j) a)) (At (Master j) Top) b.init (slave_is deck j b e)
          (h.sources Lsb tt) (h.sources Ls tt) (h.sources Rs tt) (h.sources Rsb tt)))

      master_sleeps : (j : ℕ) (b : Latch) → IsLatchAt s j b → net (At (Master j) Top) ≢ event.net
      master_sleeps j b e m =
          no_event event (net (At (Master j) Top)) m
          (stays_at_target event (net (At (Master j) Top)) (value_of before (net (At (Master j) Top))) refl
          (master_held devices is_source net before (h.sources Vdd tt) (h.sources Vss tt) (λ a. net (At (Master j) a)) (At (Next j) Top) (master_is deck j b e) (h.sources Lmb tt) (h.sources Lm tt)))

      -- an event gives a part its value
      pub wakes : (part : Part) (a : IsPart s part) → net (At part Top) ≡ event.net → event.value ≡ wake_goal part a
      wakes (Dynamic k) a m = dynamic_wakes k a.0 a.1 m
      wakes (Output k) a m = (static_wakes (Output k) (FromDynamic k) Zero a (cell_output k a.0 a.1) refl (h.cell_outputs k a.0 a.1) m).0
      wakes (Complement l) a m = (static_wakes (Complement l) (Plus l) _ ((deck.shape).complements_are l a) (complement_is deck l a) refl (h.complements l a) m).0
      wakes (Master j) a m = absurd (master_sleeps j a.0 a.1 m)
      wakes (Slave j) a m = slave_wakes j a.0 a.1 m
      wakes (Next j) a m = (static_wakes (Next j) (a.0).next _ ((deck.shape).nexts j a.0 a.1) (next_is deck j a.0 a.1) refl (h.nexts j a.0 a.1) m).0
      wakes (Sink i) a m = (static_wakes (Sink i) a.0 _ ((deck.shape).outputs_are i a.0 a.1) (sink_is deck i a.0 a.1) refl (h.outputs i a.0 a.1) m).0

      simple_after : (part : Part) (goal : Tri) → (net (At part Top) ≡ event.net → event.value ≡ goal) → (value_of before (net (At part Top)) ≡ Unknown) ⊎ (value_of before (net (At part Top)) ≡ goal)
          → (value_of (after_next event) (net (At part Top)) ≡ Unknown) ⊎ (value_of (after_next event) (net (At part Top)) ≡ goal)
      simple_after part goal f k =
          elim (dec_nat (net (At part Top)) event.net) [
            | inl m ↦ inr (now_at event (net (At part Top)) m ∙ f m)
            | inr m ↦ elim k [ inl e ↦ inl (kept_at event (net (At part Top)) m ∙ e) | inr e ↦ inr (kept_at event (net (At part Top)) m ∙ e) ]
          ]

      -- a gate that has its value keeps it
      gate_keeps : (g : Gate) → IsGate s g → HasWoken before g → HasWoken (after_next event) g
      gate_keeps g a e =
          EachLeaf-with (λ x. value_of before (net x) ≡ wake_gate g) (λ x. net x ≡ event.net → event.value ≡ wake_gate g) (λ x. value_of (after_next event) (net x) ≡ wake_gate g)
          (λ x e f. elim (dec_nat (net x) event.net) [
            | inl m ↦ now_at event (net x) m ∙ f m
            | inr m ↦ kept_at event (net x) m ∙ e
          ]) (gate_tree s g) e (at g a)
        where
          at : (g : Gate) → IsGate s g → EachLeaf (λ x. net x ≡ event.net → event.value ≡ wake_gate g) (gate_tree s g)
          at (Plus (FromPin p)) a = λ m. absurd (never {b = is_source event.net} (rw (← m) (deck.sources (Pin p) a)) event.pending.0)
          at (Plus (FromLatch j)) a = slave_wakes j a.0 a.1
          at (Minus l) a = wakes (Complement l) a
          at (FromOutput k) a = wakes (Output k) a
          at (FromDynamic k) a = rw (a.1) (each_dynamic s (λ x. net x ≡ event.net → event.value ≡ One) k a.0 a.1 (λ d z side i. dynamic_wakes _ d i))
          at High a = λ m. absurd (never {b = is_source event.net} (rw (← m) (deck.sources Vdd tt)) event.pending.0)
          at Low a = λ m. absurd (never {b = is_source event.net} (rw (← m) (deck.sources Vss tt)) event.pending.0)

      static_after : (part : Part) (g : Gate) (goal : Tri) → IsGate s g → IsStage devices is_source (λ a. net (At part a)) (static_branches net (gate_tree s g)) → goal ≡ opposite (wake_gate g)
          → Awakes before part g goal → Awakes (after_next event) part g goal
      static_after part g goal a is z k =
          elim (dec_nat (net (At part Top)) event.net) [
            | inl m ↦ let w = static_wakes part g goal a is z k m in inr (now_at event (net (At part Top)) m ∙ w.0, gate_keeps g a w.1)
            | inr m ↦ elim k [
              | inl e ↦ inl (kept_at event (net (At part Top)) m ∙ e)
              | inr e ↦ inr (kept_at event (net (At part Top)) m ∙ e.0, gate_keeps g a e.1)
            ]
          ]

      pub awaking_after : IsAwaking (after_next event)
      awaking_after =
          record {
            sources = λ a i. source_kept event (net a) (deck.sources a i) ∙ h.sources a i;
            masters = λ j b e. kept_at event (net (At (Master j) Top)) (master_sleeps j b e) ∙ h.masters j b e;
            dynamics = λ k c e. simple_after (Dynamic k) One (dynamic_wakes k c e) (h.dynamics k c e);
            slaves = λ j b e. simple_after (Slave j) (wake_own (FromLatch j)) (slave_wakes j b e) (h.slaves j b e);
            cell_outputs = λ k c e. static_after (Output k) (FromDynamic k) Zero (c, e) (cell_output k c e) refl (h.cell_outputs k c e);
            complements = λ l a. static_after (Complement l) (Plus l) _ ((deck.shape).complements_are l a) (complement_is deck l a) refl (h.complements l a);
            nexts = λ j b e. static_after (Next j) b.next _ ((deck.shape).nexts j b e) (next_is deck j b e) refl (h.nexts j b e);
            outputs = λ i g e. static_after (Sink i) g _ ((deck.shape).outputs_are i g e) (sink_is deck i g e) refl (h.outputs i g e);
          }

  -- where all parts are Unknown they are to wake
  pub awaking-unknown : (values : List Tri) → AreSources net s Reset risen fallen pins values → ((part : Part) → IsPart s part → value_of values (net (At part Top)) ≡ Unknown) → IsAwaking values
  awaking-unknown values src u =
      record {
        sources = src;
        masters = λ j b e. u (Master j) (b, e);
        dynamics = λ k c e. inl (u (Dynamic k) (c, e));
        slaves = λ j b e. inl (u (Slave j) (b, e));
        cell_outputs = λ k c e. inl (u (Output k) (c, e));
        complements = λ l a. inl (u (Complement l) a);
        nexts = λ j b e. inl (u (Next j) (b, e));
        outputs = λ i g e. inl (u (Sink i) (g, e));
      }
