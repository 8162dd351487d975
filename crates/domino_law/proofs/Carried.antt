-- What a move leaves as it is.
use Rattle.std.specs.Prelude.{◌≢◌, ◌⊎◌}
use Rattle.std.proofs.Common.{Bool, List, inl, inr, refl, sym, ℕ, ◌<◌, ◌∙◌, ◌≡◌, [], false, true}
use Rattle.dom_base.specs.Tri.{opposite}
use Rattle.dom_base.specs.declared.kind.Kind.TheVariants.{N as nch}
use Rattle.dom_base.specs.declared.tri.Tri.{Tri}
use Rattle.dom_base.specs.declared.tri.Tri.TheVariants.{One, Zero}
use Rattle.deck.specs.Switches.{value_of}
use Rattle.deck.specs.declared.device.Device.{Device}
use Rattle.sp_network.specs.Known.{IsKnown}
use Rattle.sp_network.proofs.TreeImages.{tree_conduction-same}
use Rattle.domino_cell.specs.Stage.{Spot, Top}
use Rattle.port_runs.specs.Environment.{Place, Reset, bit}
use Rattle.domino_law.specs.Honest.{AtCapture, IsDynamicSpot, IsHonestFrame, IsMasterAt, IsOpposed, HoldsTargets, IsSlaveAt, cell_conduction, HasPreviousFallen, IsHeldCell, IsHonestOutput, IsHonestSide, gate_value, static_value}
use Rattle.domino_law.specs.LooseDeck.{HoldsDeck, IsPart}
use Rattle.domino_law.specs.Nets.{At, Clock, Complement, Dynamic, FromLatch, FromPin, Gate, Master, Net, Next, Output, Part, Pin, DeckSignal, Sink, Slave, Vdd, Vss, gate_net, own, CellSide, left_side}
use Rattle.domino_law.specs.Runs.{ChangesSources}
use Rattle.domino_law.specs.Shape.{DominoCell, HasComplement, IsCellAt, IsGate, IsLatchAt, IsSignal, Latch, Shape, MayOverlap, DynamicStage, IsLeafOf, IsSideAt, dynamic_nets, gate_tree, left_stage}
use Rattle.domino_cell.specs.declared.style.Style.TheVariants.{Keeper as WithKeeper}
use Rattle.domino_law.proofs.Cells.{spot_pulled}
use Rattle.domino_law.proofs.DeckParts.{dynamic_is, leaf_is_gate, part-free, spot-free, zero_or_one, AreKnownGates, previous_overlaps, up_of}
use Rattle.domino_law.proofs.Leaves.{EachLeaf-weaker}
use Rattle.domino_law.proofs.Rests.{IsFresh, IsLow}
use Rattle.domino_law.specs.Places.{AreSourcesBy, ClockState, AfterFall, AreClocksAt}
use Rattle.deck.specs.Paths.{Possible}
use Rattle.domino_cell.proofs.Paths.{Reach-from_any}
use Rattle.sp_network.specs.Tree.{EachLeaf}
use Rattle.domino_cell.specs.Tapped.{IsTapped}
use Rattle.domino_law.specs.Branches.{dynamic}
use Rattle.domino_law.proofs.KeptCells.{fewer_paths, leaves_low, top_net}
use Rattle.domino_law.proofs.Statics.{each_dynamic, gate_nets, leaf_net, left_is}

module _ {devices : List Device} {is_source : ℕ → Bool} {net : Net → ℕ} {s : Shape} (deck : HoldsDeck devices is_source net s)
    (before after : List Tri) (only : ChangesSources is_source before after) where
  pub same : (part : Part) → IsPart s part → value_of after (net (At part Top)) ≡ value_of before (net (At part Top))
  same part a = only.others (net (At part Top)) (part-free deck part a)

  -- the dynamic nets of a cell in series
  pub series-same : (k : ℕ) (c : DominoCell) → IsCellAt s k c → static_value net after (dynamic_nets k c.right) ≡ static_value net before (dynamic_nets k c.right)
  series-same k c e =
      tree_conduction-same nch (λ a. value_of after (net a)) (λ a. value_of before (net a)) (dynamic_nets k c.right)
      (each_dynamic s (λ a. value_of after (net a) ≡ value_of before (net a)) k c e (λ d z side i. same (Dynamic _) (d, i)))

  pub spot-same : (k : CellSide) (c : DynamicStage) → IsSideAt s k c → (a : Spot) → IsDynamicSpot s.style c a → value_of after (net (At (Dynamic k) a)) ≡ value_of before (net (At (Dynamic k) a))
  spot-same k c e a i = only.others (net (At (Dynamic k) a)) (spot-free deck k c e a i)

  pub evaluated_same : (k : ℕ) (c : DominoCell) → IsCellAt s k c
      → (value_of before (net (At (Output k) Top)) ≡ Zero) ⊎ ((value_of before (net (At (Output k) Top)) ≡ One) × (static_value net before (dynamic_nets k c.right) ≡ Zero))
      → (value_of after (net (At (Output k) Top)) ≡ Zero) ⊎ ((value_of after (net (At (Output k) Top)) ≡ One) × (static_value net after (dynamic_nets k c.right) ≡ Zero))
  evaluated_same k c e (inl z) = inl (same (Output k) (c, e) ∙ z)
  evaluated_same k c e (inr q) = inr (same (Output k) (c, e) ∙ q.0, series-same k c e ∙ q.1)

  pub idle_same : (late late' : Type 0) (k : ℕ) (c : DominoCell) → IsCellAt s k c → (late → late')
      → ((static_value net before (dynamic_nets k c.right) ≡ One) × (value_of before (net (At (Output k) Top)) ≡ Zero))
      ⊎ (late × IsKnown (value_of before (net (At (Output k) Top))) × (static_value net before (dynamic_nets k c.right) ≡ Zero → value_of before (net (At (Output k) Top)) ≡ One))
      → ((static_value net after (dynamic_nets k c.right) ≡ One) × (value_of after (net (At (Output k) Top)) ≡ Zero))
      ⊎ (late' × IsKnown (value_of after (net (At (Output k) Top))) × (static_value net after (dynamic_nets k c.right) ≡ Zero → value_of after (net (At (Output k) Top)) ≡ One))
  idle_same late late' k c e f (inl p) = inl (series-same k c e ∙ p.0, same (Output k) (c, e) ∙ p.1)
  idle_same late late' k c e f (inr p) = inr (
    f p.0,
    rw (same (Output k) (c, e)) p.1,
    (λ x. same (Output k) (c, e) ∙ p.2 (sym (series-same k c e) ∙ x)),
  )

  pub spots_idle_same : (late late' : Type 0) (k : CellSide) (c : DynamicStage) → IsSideAt s k c → (late → late') → (a : Spot) → IsDynamicSpot s.style c a
      → (value_of before (net (At (Dynamic k) a)) ≡ One) ⊎ late → (value_of after (net (At (Dynamic k) a)) ≡ One) ⊎ late'
  spots_idle_same late late' k c e f a i (inl z) = inl (spot-same k c e a i ∙ z)
  spots_idle_same late late' k c e f a i (inr z) = inr (f z)

  -- a precharged side is honest whatever its clock
  pub fresh_side : (up' : ℕ → ClockState) (k : CellSide) (c : DynamicStage) → IsSideAt s k c → IsFresh net s.style before k c → IsHonestSide devices is_source net s.style up' after k c
  fresh_side up' k c e p =
      record {
        pulled = λ on f a i z. absurd (zero_or_one (sym z ∙ (spot-same k c e a i ∙ p a i)));
        spots_known = λ a i. inr (spot-same k c e a i ∙ p a i);
        spots_idle = λ off a i. inl (spot-same k c e a i ∙ p a i);
      }

  pub fresh_out : (up' : ℕ → ClockState) (k : ℕ) (c : DominoCell) → IsCellAt s k c → IsLow net before k c → IsHonestOutput net up' after k c
  fresh_out up' k c e p =
      record {
        evaluated = λ on. inl (same (Output k) (c, e) ∙ p.1);
        idle = λ off. inl (series-same k c e ∙ p.0, same (Output k) (c, e) ∙ p.1);
      }

module _ {devices : List Device} {is_source : ℕ → Bool} {net : Net → ℕ} {s : Shape} (deck : HoldsDeck devices is_source net s)
    {place : Place} {up : ℕ → ClockState} {old new pins : ℕ → Bool} {kept : ℕ → Tri} {before : List Tri} (frame : IsHonestFrame net s place up old new pins kept before)
    (place' : Place) (up' : ℕ → ClockState) (pins' : ℕ → Bool) (after : List Tri) (sources : AreSourcesBy net s place' up' pins' after) (only : ChangesSources is_source before after) where
  stays : (part : Part) → IsPart s part → value_of after (net (At part Top)) ≡ value_of before (net (At part Top))
  stays = same deck before after only

  pub comp-known : (l : DeckSignal) → HasComplement s l → IsKnown (value_of after (net (At (Complement l) Top)))
  comp-known l a = rw (stays (Complement l) a) (frame.complements l a)

  -- the next frame: what is known stays known
  pub carry : AreClocksAt s place' up' → (old' new' : ℕ → Bool) (kept' : ℕ → Tri)
      → ((l : DeckSignal) → HasComplement s l → IsOpposed place' (value_of after (net (own l))) (value_of after (net (At (Complement l) Top))))
      → ((j : ℕ) (b : Latch) → IsLatchAt s j b → IsSlaveAt place' (bit (old' j)) (bit (new' j)) (value_of after (net (At (Slave j) Top))))
      → ((j : ℕ) (b : Latch) → IsLatchAt s j b → IsMasterAt place' (kept' j) (bit (new' j)) (value_of after (net (At (Master j) Top))))
      → (place' ≢ Reset)
      → ((j : ℕ) (b : Latch) → IsLatchAt s j b → AtCapture place' (value_of after (net (At (Next j) Top)) ≡ bit (new' j)))
      → IsHonestFrame net s place' up' old' new' pins' kept' after
  carry clocks old' new' kept' opposed slaves masters not_reset next_values =
      record {
        sources = sources;
        clocks = clocks;
        complements = comp-known;
        opposed = opposed;
        slaves = slaves;
        masters = masters;
        started = λ z. absurd (not_reset z);
        nexts = λ j b e. rw (stays (Next j) (b, e)) (frame.nexts j b e);
        next_is = next_values;
        outputs = λ i g e. rw (stays (Sink i) (g, e)) (frame.outputs i g e);
      }

  -- where the pins stay
  module _ (same_pins : (p : ℕ) → p < s.pins → pins' p ≡ pins p) where
    own-same : (l : DeckSignal) → IsSignal s l → value_of after (net (own l)) ≡ value_of before (net (own l))
    own-same (FromPin p) a = sources (Pin p) a ∙ (rw (same_pins p a) refl ∙ sym (frame.sources (Pin p) a))
    own-same (FromLatch j) a = stays (Slave j) a

    pub gate-same : (g : Gate) → IsGate s g → EachLeaf (λ a. value_of after (net a) ≡ value_of before (net a)) (gate_tree s g)
    gate-same =
        gate_nets s (λ a. value_of after (net a) ≡ value_of before (net a)) own-same (λ l a. stays (Complement l) a) (λ k c e. stays (Output k) (c, e)) (λ k c e. stays (Dynamic k) (c, e))
        (sources Vdd tt ∙ sym (frame.sources Vdd tt)) (sources Vss tt ∙ sym (frame.sources Vss tt))

    pub value-same : (g : Gate) → IsGate s g → gate_value net s after g ≡ gate_value net s before g
    value-same g a = tree_conduction-same nch (λ a. value_of after (net a)) (λ a. value_of before (net a)) (gate_tree s g) (gate-same g a)

    leaf-same : (k : ℕ) (g : Gate) → IsLeafOf s k g → value_of after (net (gate_net g)) ≡ value_of before (net (gate_net g))
    leaf-same k g l = leaf_net s (λ a. value_of after (net a) ≡ value_of before (net a)) k g l (gate-same g (leaf_is_gate s k g l))

    -- a complement that is the opposite of its leaf stays so
    pub opposed_same : (l : DeckSignal) → HasComplement s l → value_of before (net (At (Complement l) Top)) ≡ opposite (value_of before (net (own l)))
        → value_of after (net (At (Complement l) Top)) ≡ opposite (value_of after (net (own l)))
    opposed_same l a o = stays (Complement l) a ∙ (o ∙ sym (rw (own-same l ((deck.shape).complements_are l a)) refl))

    -- the trees conduct as before
    cell-same : (k : CellSide) (c : DynamicStage) → IsSideAt s k c → cell_conduction net after c ≡ cell_conduction net before c
    cell-same k c e =
        tree_conduction-same nch (λ g. value_of after (net (gate_net g))) (λ g. value_of before (net (gate_net g))) c.tree
        (EachLeaf-weaker _ (λ g. value_of after (net (gate_net g)) ≡ value_of before (net (gate_net g))) (λ g l. leaf-same k.cell g l) c.tree ((deck.shape).leaves k c e))

    -- so what is settled stays so, where the clocks do
    pub settled_same : ((i : ℕ) → i < s.clocks → value_of after (net (Clock i)) ≡ value_of before (net (Clock i)))
        → ((i : ℕ) → i < s.clocks → HasPreviousFallen up i → HasPreviousFallen up' i) → HoldsTargets net s up before → HoldsTargets net s up' after
    settled_same clock previous settled =
        record {
          sides = λ k c e. let t = settled.sides k c e in (
            (λ on free. stays (Dynamic k) (c, e)
                ∙ (t.0 (sym (clock c.clock ((deck.shape).clocks_are k c e)) ∙ on) (λ p. free (previous c.clock ((deck.shape).clocks_are k c e) p)) ∙ sym (rw (cell-same k c e) refl))),
            (λ off. stays (Dynamic k) (c, e) ∙ t.1 (sym (clock c.clock ((deck.shape).clocks_are k c e)) ∙ off)),
          );
          cells = λ k c e. stays (Output k) (c, e) ∙ (settled.cells k c e ∙ sym (rw (series-same deck before after only k c e) refl));
          nexts = λ j b e. stays (Next j) (b, e) ∙ (settled.nexts j b e ∙ sym (rw (value-same b.next ((deck.shape).nexts j b e)) refl));
          outputs = λ i g e. stays (Sink i) (g, e) ∙ (settled.outputs i g e ∙ sym (rw (value-same g ((deck.shape).outputs_are i g e)) refl));
        }

    -- an up cell that holds goes on, where its clock stays
    pub held_same : AreKnownGates net s before → (own : Bool) (k : ℕ) (c : DominoCell) → IsCellAt s k c → MayOverlap s → value_of before (net (Clock c.clock)) ≡ One
        → value_of after (net (Clock c.clock)) ≡ value_of before (net (Clock c.clock)) → IsHeldCell devices is_source net own before k c → IsHeldCell devices is_source net own after k c
    held_same gates own k c e may on clock kept =
        record {
          pair = (stays (Dynamic (left_side k)) (left_stage c, left_is s k c e) ∙ kept.pair.0, stays (Output k) (c, e) ∙ kept.pair.1);
          shut = λ z. cell-same (left_side k) _ (left_is s k c e) ∙ kept.shut z;
          discharged = λ z y p. at_zero z y (fewer_paths devices is_source net (λ a. net (At (Dynamic (left_side k)) a)) (left_side k) (left_stage c) is before after clock (stays (Output k) (c, e))
              (EachLeaf-weaker _ (λ g. value_of before (net (gate_net g)) ≡ Zero → value_of after (net (gate_net g)) ≡ Zero) (λ g l w. leaf-same k g l ∙ w) c.tree ((deck.shape).leaves (left_side k) _ (left_is s k c e)))
              known (inr on) y p);
        }
      where
        is : IsTapped devices is_source (λ a. net (At (Dynamic (left_side k)) a)) (dynamic WithKeeper net (left_side k) (left_stage c)) []
        is = rw may.keepers at (dynamic_is deck (left_side k) _ (left_is s k c e))

        known : EachLeaf (λ g. IsKnown (value_of before (net (gate_net g)))) c.tree
        known = EachLeaf-weaker _ (λ g. IsKnown (value_of before (net (gate_net g)))) (λ g l. leaf_net s (λ a. IsKnown (value_of before (net a))) k g l (gates g (leaf_is_gate s k g l))) c.tree ((deck.shape).leaves (left_side k) _ (left_is s k c e))

        at_zero : own ≡ true → (y : ℕ) → Possible devices is_source before (net (At (Dynamic (left_side k)) Top)) y → value_of after y ≡ Zero
        at_zero z y p = go (is_source y) refl
          where
            go : (b : Bool) → is_source y ≡ b → value_of after y ≡ Zero
            go false f = only.others y f ∙ kept.discharged z y p
            go true f =
                let low = leaves_low devices is_source net (λ a. net (At (Dynamic (left_side k)) a)) (left_side k) (left_stage c) is before on (kept.pair.1 ∙ rw z refl) known
                (top_net devices is_source net (λ a. net (At (Dynamic (left_side k)) a)) (left_side k) (left_stage c) is) (Reach-from_any devices is_source before (net (At (Dynamic (left_side k)) Top)) y p) f in
                rw low (sources Vss tt)

    -- and a cell whose clock stays, and for which the clock before its own does
    pub same_held : AreKnownGates net s before → (own : Bool) (k : ℕ) (c : DominoCell) → IsCellAt s k c
        → (value_of before (net (Clock c.clock)) ≡ One → HasPreviousFallen up c.clock → IsHeldCell devices is_source net own before k c)
        → value_of after (net (Clock c.clock)) ≡ value_of before (net (Clock c.clock)) → (HasPreviousFallen up' c.clock → HasPreviousFallen up c.clock)
        → value_of after (net (Clock c.clock)) ≡ One → HasPreviousFallen up' c.clock → IsHeldCell devices is_source net own after k c
    same_held gates own k c e held clock back o early =
        held_same gates own k c e
        (previous_overlaps deck frame c.clock
        (up_of deck frame c.clock ((deck.shape).clocks_are (left_side k) _ (left_is s k c e)) (sym clock ∙ o)) (back early))
        (sym clock ∙ o) clock (held (sym clock ∙ o) (back early))

    -- a side whose clock stays, and for which the clock before its own does, goes on
    pub same_side : (k : CellSide) (c : DynamicStage) → IsSideAt s k c → IsHonestSide devices is_source net s.style up before k c
        → value_of after (net (Clock c.clock)) ≡ value_of before (net (Clock c.clock)) → (up c.clock ≡ AfterFall → up' c.clock ≡ AfterFall)
        → (HasPreviousFallen up c.clock → HasPreviousFallen up' c.clock) → IsHonestSide devices is_source net s.style up' after k c
    same_side k c e cell clock late ahead =
        record {
          pulled = λ o free a i z. spot_pulled devices is_source net before after (frame.sources Vdd tt) (frame.sources Vss tt) (sources Vdd tt) (sources Vss tt) s.style (λ x. net (At (Dynamic k) x)) k c (dynamic_is deck k c e) (deck.sources Vss tt) (sym clock ∙ o) o
              (EachLeaf-weaker _ (λ g. value_of before (net (gate_net g)) ≡ One → value_of after (net (gate_net g)) ≡ One) (λ g l one. leaf-same k.cell g l ∙ one) c.tree ((deck.shape).leaves k c e)) a i
              (cell.pulled (sym clock ∙ o) (λ p. free (ahead p)) a i (sym (spot-same deck before after only k c e a i) ∙ z));
          spots_known = λ a i. rw (spot-same deck before after only k c e a i) (cell.spots_known a i);
          spots_idle = λ off a i. spots_idle_same deck before after only (up c.clock ≡ AfterFall) (up' c.clock ≡ AfterFall) k c e late a i (cell.spots_idle (sym clock ∙ off) a i);
        }

    pub same_out : (k : ℕ) (c : DominoCell) → IsCellAt s k c → IsHonestOutput net up before k c
        → value_of after (net (Clock c.clock)) ≡ value_of before (net (Clock c.clock)) → (up c.clock ≡ AfterFall → up' c.clock ≡ AfterFall) → IsHonestOutput net up' after k c
    same_out k c e cell clock late =
        record {
          evaluated = λ o. evaluated_same deck before after only k c e (cell.evaluated (sym clock ∙ o));
          idle = λ off. idle_same deck before after only (up c.clock ≡ AfterFall) (up' c.clock ≡ AfterFall) k c e late (cell.idle (sym clock ∙ off));
        }
