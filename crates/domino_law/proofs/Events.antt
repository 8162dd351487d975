-- What an event of a net in an honest state does to the cells.
use Rattle.std.specs.Prelude.{◌⊎◌}
use Rattle.std.proofs.Common.{Bool, List, inl, inr, refl, sym, ℕ, ◌<◌, ◌∙◌, ◌≡◌, [], false, true, suc, zero, arith, ◌+◌, ap, subst, None}
use Rattle.dom_base.specs.Tri.{opposite}
use Rattle.dom_base.specs.declared.tri.Tri.{Tri}
use Rattle.dom_base.specs.declared.tri.Tri.TheVariants.{One, Zero}
use Rattle.deck.specs.Paths.{DefiniteStrong, Possible}
use Rattle.deck.specs.Switches.{value_of}
use Rattle.deck.specs.declared.device.Device.{Device}
use Rattle.sp_network.specs.Known.{IsKnown}
use Rattle.sp_network.specs.Tree.{EachLeaf, Leaf}
use Rattle.domino_cell.specs.Stage.{Spot, Top, Inside}
use Rattle.dom_base.proofs.Decided.{dec_nat}
use Rattle.port_runs.specs.Environment.{Place}
use Rattle.port_runs.specs.declared.clocking.Clocking.TheVariants.{Overlapping}
use Rattle.domino_law.specs.Honest.{IsDynamicSpot, IsHonest, cell_conduction, HasPreviousFallen, IsHeldCell, static_value}
use Rattle.domino_law.specs.LooseDeck.{HoldsDeck}
use Rattle.domino_law.specs.Nets.{At, Clock, Complement, Dynamic, FromDynamic, FromOutput, Gate, High, Low, Minus, Net, Output, Plus, Vdd, Vss, gate_net, own, CellSide, left_side}
use Rattle.domino_law.specs.Places.{ClockState, AfterFall}
use Rattle.domino_law.specs.Shape.{DominoCell, IsCellAt, IsLeafOf, Shape, IsOfClocks, MayOverlap, DynamicStage, IsSideAt, dynamic_nets, left_stage}
use Rattle.domino_cell.specs.declared.style.Style.{Style}
use Rattle.domino_cell.specs.declared.style.Style.TheVariants.{Keeper as WithKeeper, Precharge as WithPrecharge}
use Rattle.domino_law.proofs.Cells.{spot_falls, spot_precharges, spot_pulled}
use Rattle.domino_law.proofs.DeckParts.{clock-known, clocks_at, complement_is, dynamic_is, known_leaves, output_is, output_low, own-known, spots_held, zero_or_one, leaf_not_fallen, near_leaves, opposite-known, opposite_twice, previous_overlaps, up_of, series-known, are_simple, dynamic-known}
use Rattle.domino_law.proofs.FrameEvents.{inverted, inverter_stays, leaf_stays}
use Rattle.domino_law.proofs.Leaves.{EachLeaf-weaker, EachLeaf-both, tree_rises}
use Rattle.domino_law.proofs.NetEvents.{NextEvent, after_next, kept_at, moved_to, not_still, now_at, source_kept, stays_at_target}
use Rattle.domino_law.proofs.Parts.{pulled_conducts, keeper_holds}
use Rattle.domino_law.proofs.Places.{clock_opposed, clock_shut}
use Rattle.domino_law.specs.OwnRun.{own_bit}
use Rattle.domino_law.specs.Branches.{dynamic}
use Rattle.domino_cell.specs.Tapped.{IsTapped}
use Rattle.domino_cell.proofs.Paths.{Reach-from_any}
use Rattle.domino_law.proofs.ClockOrder.{dec_previous}
use Rattle.domino_law.proofs.KeptCells.{fewer_paths, keeps_zero}
use Rattle.domino_law.proofs.SimpleCells.{simple_side}
use Rattle.domino_law.proofs.Statics.{each_dynamic, left_is, tree_falls}

-- in the style with keepers the top alone is dynamic
pub keeper_spot : (style : Style) (c : DynamicStage) (a : Spot) → style ≡ WithKeeper → IsDynamicSpot style c a → a ≡ Top
keeper_spot style c Top z i = refl
keeper_spot WithKeeper c (Inside x y) z i = absurd i
keeper_spot WithPrecharge c (Inside x y) z i = absurd (cc)

module _ {devices : List Device} {is_source : ℕ → Bool} {net : Net → ℕ} {s : Shape} (deck : HoldsDeck devices is_source net s)
    {place : Place} {up : ℕ → ClockState} {old new pins : ℕ → Bool} {keeps_at : ℕ → Tri} {before : List Tri} (h : IsHonest devices is_source net s place up old new pins keeps_at before)
    (event : NextEvent devices is_source before) where
  -- while clock i is high and the one before it has not fallen, a leaf of its cells that is One stays One
  leaf_rises : (i : ℕ) → i < s.clocks → value_of before (net (Clock i)) ≡ One → (HasPreviousFallen up i → ⊥) → (k : ℕ) (g : Gate)
      → IsLeafOf s k g → (s.clocking ≡ Overlapping → IsOfClocks s i g)
      → value_of before (net (gate_net g)) ≡ One → value_of (after_next event) (net (gate_net g)) ≡ One
  leaf_rises i l on free k (Plus p) a near one = leaf_stays deck h.frame event p a (clock_shut place _ (clocks_at deck h.frame i l) on) ∙ one
  leaf_rises i l on free k (Minus p) a near one =
      inverter_stays deck h.frame event (λ b. net (At (Complement p) b)) (Leaf (own p)) (complement_is deck p a) (own-known deck h.frame p ((deck.shape).complements_are p a))
      (clock_opposed place _ _ _ (clocks_at deck h.frame i l) on (h.frame.opposed p a)) ∙ one
  leaf_rises i l on free k (FromOutput j) a near one =
      elim (dec_nat (net (At (Output j) Top)) event.net) [
        | inl z ↦ now_at event (net (At (Output j) Top)) z
            ∙ (inverted deck h.frame event (λ b. net (At (Output j) b)) (dynamic_nets j (a.1.0).right) (output_is deck j a.1.0 a.1.1) (series-known deck h j a.1.0 a.1.1) z ∙ rw pulled_low refl)
        | inr z ↦ kept_at event (net (At (Output j) Top)) z ∙ one
      ]
    where
      pulled_low : static_value net before (dynamic_nets j (a.1.0).right) ≡ Zero
      pulled_low =
          elim (clock-known deck h.frame (left_side j) _ (left_is s j a.1.0 a.1.1)) [
            | inl off ↦ elim ((h.cells.outs j a.1.0 a.1.1).idle off) [
              | inl q ↦ absurd (zero_or_one (sym q.1 ∙ one))
              | inr q ↦ absurd (leaf_not_fallen deck h.frame i (up_of deck h.frame i l on) free j a.1.0 a.1.1 near q.0)
            ]
            | inr high ↦ elim ((h.cells.outs j a.1.0 a.1.1).evaluated high) [ inl q ↦ absurd (zero_or_one (sym q ∙ one)) | inr q ↦ q.1 ]
          ]
  leaf_rises i l on free k (FromDynamic j) a near one = absurd a
  leaf_rises i l on free k High a near one = absurd a
  leaf_rises i l on free k Low a near one = absurd a

  -- so its leaves rise
  leaves_rise : (k : CellSide) (c : DynamicStage) → IsSideAt s k c → value_of before (net (Clock c.clock)) ≡ One → (HasPreviousFallen up c.clock → ⊥)
      → EachLeaf (λ g. value_of before (net (gate_net g)) ≡ One → value_of (after_next event) (net (gate_net g)) ≡ One) c.tree
  leaves_rise k c e on free =
      EachLeaf-weaker _ (λ g. value_of before (net (gate_net g)) ≡ One → value_of (after_next event) (net (gate_net g)) ≡ One)
      (λ g q. leaf_rises c.clock ((deck.shape).clocks_are k c e) on free k.cell g q.0 q.1) c.tree (near_leaves deck h.frame k c e)

  -- From the fall of the clock before its own an up cell holds.
  pub held_facts : (k : ℕ) (c : DominoCell) → IsCellAt s k c → value_of before (net (Clock c.clock)) ≡ One → HasPreviousFallen up c.clock
      → MayOverlap s × IsHeldCell devices is_source net (own_bit s pins old k) before k c
  held_facts k c e on early =
      (previous_overlaps deck h.frame c.clock (up_of deck h.frame c.clock ((deck.shape).clocks_are (left_side k) _ (left_is s k c e)) on) early, h.cells.held k c e on early)

  with_keeper : (k : ℕ) (c : DominoCell) → IsCellAt s k c → MayOverlap s → IsTapped devices is_source (λ a. net (At (Dynamic (left_side k)) a)) (dynamic WithKeeper net (left_side k) (left_stage c)) []
  with_keeper k c e may = rw may.keepers at (dynamic_is deck (left_side k) _ (left_is s k c e))

  -- at bit 1 each net that is joined to the dynamic net has no event but to Zero
  joined_zero : (k : ℕ) (c : DominoCell) → IsCellAt s k c → value_of before (net (Clock c.clock)) ≡ One → HasPreviousFallen up c.clock → own_bit s pins old k ≡ true
      → (event.net ≡ net (At (Dynamic (left_side k)) Top)) ⊎ Possible devices is_source before (net (At (Dynamic (left_side k)) Top)) event.net → event.value ≡ Zero
  joined_zero k c e on early one j =
      let f = held_facts k c e on early in
      keeps_zero devices is_source net (λ a. net (At (Dynamic (left_side k)) a)) (left_side k) (left_stage c) (with_keeper k c e f.0) before on ((f.1).pair.1 ∙ rw one refl)
      (known_leaves deck h (left_side k) _ (left_is s k c e)) ((f.1).pair.0 ∙ rw one refl) ((f.1).discharged one) event.net
      (elim j [ inl z ↦ inl z | inr p ↦ inr (event.pending.0, Reach-from_any devices is_source before (net (At (Dynamic (left_side k)) Top)) event.net p) ]) event.value event.pending.1

  pub held_dynamic : (k : ℕ) (c : DominoCell) → IsCellAt s k c → value_of before (net (Clock c.clock)) ≡ One → HasPreviousFallen up c.clock
      → value_of (after_next event) (net (At (Dynamic (left_side k)) Top)) ≡ value_of before (net (At (Dynamic (left_side k)) Top))
  held_dynamic k c e on early = go (own_bit s pins old k) refl
    where
      f : MayOverlap s × IsHeldCell devices is_source net (own_bit s pins old k) before k c
      f = held_facts k c e on early

      go : (b : Bool) → own_bit s pins old k ≡ b → value_of (after_next event) (net (At (Dynamic (left_side k)) Top)) ≡ value_of before (net (At (Dynamic (left_side k)) Top))
      go false z =
          stays_at_target event (net (At (Dynamic (left_side k)) Top)) One ((f.1).pair.0 ∙ rw z refl)
          (keeper_holds devices is_source net before (h.frame.sources Vdd tt) (h.frame.sources Vss tt) (λ a. net (At (Dynamic (left_side k)) a)) (left_side k) (left_stage c) (with_keeper k c e f.0) on ((f.1).shut z) ((f.1).pair.1 ∙ rw z refl))
      go true z =
          elim (dec_nat (net (At (Dynamic (left_side k)) Top)) event.net) [
            | inl m ↦ now_at event (net (At (Dynamic (left_side k)) Top)) m ∙ (joined_zero k c e on early z (inl (sym m)) ∙ sym ((f.1).pair.0 ∙ rw z refl))
            | inr ne ↦ kept_at event (net (At (Dynamic (left_side k)) Top)) ne
          ]

  -- a simple cell has one dynamic net
  one_net : (k : ℕ) (c : DominoCell) → c.right ≡ None → static_value net before (dynamic_nets k c.right) ≡ value_of before (net (At (Dynamic (left_side k)) Top))
  one_net k c z = rw z refl

  pub held_output : (k : ℕ) (c : DominoCell) → IsCellAt s k c → value_of before (net (Clock c.clock)) ≡ One → HasPreviousFallen up c.clock
      → value_of (after_next event) (net (At (Output k) Top)) ≡ value_of before (net (At (Output k) Top))
  held_output k c e on early =
      let f = held_facts k c e on early in
      inverter_stays deck h.frame event (λ b. net (At (Output k) b)) (dynamic_nets k c.right) (output_is deck k c e) (series-known deck h k c e)
      ((f.1).pair.1 ∙ sym (ap opposite (one_net k c (are_simple deck f.0 k c e)) ∙ rw (f.1).pair.0 (opposite_twice (own_bit s pins old k))))

  -- its leaves fall
  leaf_falls : (k : ℕ) (c : DominoCell) → IsCellAt s k c → MayOverlap s → value_of before (net (Clock c.clock)) ≡ One → HasPreviousFallen up c.clock → (g : Gate)
      → IsLeafOf s k g → IsOfClocks s c.clock g
      → value_of before (net (gate_net g)) ≡ Zero → value_of (after_next event) (net (gate_net g)) ≡ Zero
  leaf_falls k c e may on early (Plus p) a near off = leaf_stays deck h.frame event p a (clock_shut place _ (clocks_at deck h.frame c.clock ((deck.shape).clocks_are (left_side k) _ (left_is s k c e))) on) ∙ off
  leaf_falls k c e may on early (Minus p) a near off =
      inverter_stays deck h.frame event (λ b. net (At (Complement p) b)) (Leaf (own p)) (complement_is deck p a) (own-known deck h.frame p ((deck.shape).complements_are p a))
      (clock_opposed place _ _ _ (clocks_at deck h.frame c.clock ((deck.shape).clocks_are (left_side k) _ (left_is s k c e))) on (h.frame.opposed p a)) ∙ off
  leaf_falls k c e may on early (FromOutput j) a near off = by (near a.1.0 a.1.1)
    where
      d : DominoCell
      d = a.1.0

      f : IsCellAt s j d
      f = a.1.1

      -- its clock has fallen, so that its output goes to Zero
      idle_low : up d.clock ≡ AfterFall → value_of (after_next event) (net (At (Output j) Top)) ≡ Zero
      idle_low z =
          elim ((h.cells.outs j d f).idle (h.frame.sources (Clock d.clock) ((deck.shape).clocks_are (left_side j) _ (left_is s j d f)) ∙ rw z refl)) [
            | inl p ↦ inverter_stays deck h.frame event (λ b. net (At (Output j) b)) (dynamic_nets j d.right) (output_is deck j d f) (series-known deck h j d f) (p.1 ∙ sym (rw p.0 refl)) ∙ p.1
            | inr p ↦ elim (series-known deck h j d f) [
              | inl w ↦ absurd (zero_or_one (sym off ∙ p.2 w))
              | inr w ↦ inverter_stays deck h.frame event (λ b. net (At (Output j) b)) (dynamic_nets j d.right) (output_is deck j d f) (inr w) (off ∙ sym (rw w refl)) ∙ off
            ]
          ]

      before_is : (i : ℕ) → d.clock + 1 ≡ i → HasPreviousFallen up i → up d.clock ≡ AfterFall
      before_is zero z p = absurd p
      before_is (suc i) z p = rw (same d.clock i z) p
        where
          same : (a b : ℕ) → a + 1 ≡ suc b → a ≡ b
          same a b z = omega arith

      by : (d.clock ≡ c.clock) ⊎ (d.clock + 1 ≡ c.clock) → value_of (after_next event) (net (At (Output j) Top)) ≡ Zero
      by (inl z) = held_output j d f (rw z on) (rw z early) ∙ off
      by (inr z) = idle_low (before_is c.clock z early)
  leaf_falls k c e may on early (FromDynamic j) a near off = absurd a
  leaf_falls k c e may on early High a near off = absurd a
  leaf_falls k c e may on early Low a near off = absurd a

  leaves_fall : (k : ℕ) (c : DominoCell) → IsCellAt s k c → value_of before (net (Clock c.clock)) ≡ One → HasPreviousFallen up c.clock → MayOverlap s
      → EachLeaf (λ g. value_of before (net (gate_net g)) ≡ Zero → value_of (after_next event) (net (gate_net g)) ≡ Zero) c.tree
  leaves_fall k c e on early may =
      EachLeaf-weaker _ (λ g. value_of before (net (gate_net g)) ≡ Zero → value_of (after_next event) (net (gate_net g)) ≡ Zero)
      (λ g q. leaf_falls k c e may on early g q.0 q.1) c.tree
      (EachLeaf-both (IsLeafOf s k) (IsOfClocks s c.clock) c.tree ((deck.shape).leaves (left_side k) _ (left_is s k c e)) (may.reads k c e))

  pub held_after : (k : ℕ) (c : DominoCell) → IsCellAt s k c → value_of before (net (Clock c.clock)) ≡ One → HasPreviousFallen up c.clock
      → IsHeldCell devices is_source net (own_bit s pins old k) (after_next event) k c
  held_after k c e on early =
      record {
        pair = (held_dynamic k c e on early ∙ (f.1).pair.0, held_output k c e on early ∙ (f.1).pair.1);
        shut = λ z. tree_falls (λ g. value_of before (net (gate_net g))) (λ g. value_of (after_next event) (net (gate_net g))) c.tree (leaves_fall k c e on early f.0) ((f.1).shut z);
        discharged = λ z y p. at_zero z y (fewer_paths devices is_source net (λ a. net (At (Dynamic (left_side k)) a)) (left_side k) (left_stage c) (with_keeper k c e f.0) before (after_next event)
            (source_kept event (net (Clock c.clock)) (deck.sources (Clock c.clock) ((deck.shape).clocks_are (left_side k) _ (left_is s k c e))))
            (held_output k c e on early) (leaves_fall k c e on early f.0) (known_leaves deck h (left_side k) _ (left_is s k c e)) (inr on) y p);
      }
    where
      f : MayOverlap s × IsHeldCell devices is_source net (own_bit s pins old k) before k c
      f = held_facts k c e on early

      at_zero : own_bit s pins old k ≡ true → (y : ℕ) → Possible devices is_source before (net (At (Dynamic (left_side k)) Top)) y → value_of (after_next event) y ≡ Zero
      at_zero z y p = elim (dec_nat y event.net) [
        | inl m ↦ now_at event y m ∙ joined_zero k c e on early z (inr (rw m at p))
        | inr ne ↦ kept_at event y ne ∙ (f.1).discharged z y p
      ]

  -- and so does the dynamic net of an up side
  pub held_side : (k : CellSide) (c : DynamicStage) → IsSideAt s k c → value_of before (net (Clock c.clock)) ≡ One → HasPreviousFallen up c.clock
      → (s.style ≡ WithKeeper) × IsKnown (value_of (after_next event) (net (At (Dynamic k) Top)))
      × (value_of (after_next event) (net (At (Dynamic k) Top)) ≡ value_of before (net (At (Dynamic k) Top)))
  held_side k c e on early =
      let may = previous_overlaps deck h.frame c.clock (up_of deck h.frame c.clock ((deck.shape).clocks_are k c e) on) early in
      let x = simple_side s (are_simple deck may) k c e in
      let stays = held_dynamic k.cell x.0 x.1 (subst (λ (y : DynamicStage). value_of before (net (Clock y.clock)) ≡ One) (sym x.3) on) (subst (λ (y : DynamicStage). HasPreviousFallen up y.clock) (sym x.3) early) in
      let same : value_of (after_next event) (net (At (Dynamic k) Top)) ≡ value_of before (net (At (Dynamic k) Top)) =
      subst (λ (q : CellSide). value_of (after_next event) (net (At (Dynamic q) Top)) ≡ value_of before (net (At (Dynamic q) Top))) (sym x.2) stays in
      (may.keepers, rw same (dynamic-known deck h k c e), same)

  -- at a cell whose clock is 1
  module _ (k : CellSide) (c : DynamicStage) (e : IsSideAt s k c) (on : value_of before (net (Clock c.clock)) ≡ One) where
    -- before the fall of the clock before its own, a dynamic net that has an event falls
    pub spot_event : (HasPreviousFallen up c.clock → ⊥) → (a : Spot) → IsDynamicSpot s.style c a → net (At (Dynamic k) a) ≡ event.net
        → (value_of before (net (At (Dynamic k) a)) ≡ One) × (event.value ≡ Zero) × DefiniteStrong devices is_source before (net (At (Dynamic k) a)) (net Vss)
    spot_event free a i m =
        spot_falls devices is_source net before (h.frame.sources Vdd tt) (h.frame.sources Vss tt) s.style (λ x. net (At (Dynamic k) x)) k c (dynamic_is deck k c e) (deck.sources Vss tt) on
        (known_leaves deck h k c e)
        (spots_held deck h k c e on free) (output_low deck h k c e on)
        a i event.value (rw m event.pending.1) (λ z. not_still event (net (At (Dynamic k) a)) m z)

    pub dynamic_falls : (HasPreviousFallen up c.clock → ⊥) → net (At (Dynamic k) Top) ≡ event.net
        → (value_of before (net (At (Dynamic k) Top)) ≡ One) × (event.value ≡ Zero) × (cell_conduction net before c ≡ One)
    dynamic_falls free m =
        let f = spot_event free Top tt m in (
          f.0,
          f.1,
          pulled_conducts devices is_source net before (h.frame.sources Vdd tt) (h.frame.sources Vss tt) s.style (λ a. net (At (Dynamic k) a)) k c (dynamic_is deck k c e) (deck.sources Vss tt) f.2,
        )

    pub pulled_after : (HasPreviousFallen up c.clock → ⊥) → (a : Spot) → IsDynamicSpot s.style c a → value_of (after_next event) (net (At (Dynamic k) a)) ≡ Zero → DefiniteStrong devices is_source (after_next event) (net (At (Dynamic k) a)) (net Vss)
    pulled_after free a i z =
        spot_pulled devices is_source net before (after_next event) (h.frame.sources Vdd tt) (h.frame.sources Vss tt) (source_kept event (net Vdd) (deck.sources Vdd tt) ∙ (h.frame.sources Vdd tt)) (source_kept event (net Vss) (deck.sources Vss tt) ∙ (h.frame.sources Vss tt))
        s.style (λ x. net (At (Dynamic k) x)) k c (dynamic_is deck k c e) (deck.sources Vss tt) on
        (source_kept event (net (Clock c.clock)) (deck.sources (Clock c.clock) ((deck.shape).clocks_are k c e)) ∙ on) (leaves_rise k c e on free) a i
        (elim (dec_nat (net (At (Dynamic k) a)) event.net) [
          | inl m ↦ (spot_event free a i m).2
          | inr ne ↦ (h.cells.sides k c e).pulled on free a i (sym (kept_at event (net (At (Dynamic k) a)) ne) ∙ z)
        ])

  -- with the clock at 0 an event of a dynamic net takes it to One
  pub spot_charged : (k : CellSide) (c : DynamicStage) → IsSideAt s k c → value_of before (net (Clock c.clock)) ≡ Zero → (a : Spot) → IsDynamicSpot s.style c a → net (At (Dynamic k) a) ≡ event.net → event.value ≡ One
  spot_charged k c e off a i m =
      moved_to event (net (At (Dynamic k) a)) One m
      (spot_precharges devices is_source net before (h.frame.sources Vdd tt) (h.frame.sources Vss tt) s.style (λ x. net (At (Dynamic k) x)) k c (dynamic_is deck k c e) off a i)

  pub spots_known_after : (k : CellSide) (c : DynamicStage) → IsSideAt s k c → (a : Spot) → IsDynamicSpot s.style c a → IsKnown (value_of (after_next event) (net (At (Dynamic k) a)))
  spots_known_after k c e a i =
      elim (dec_nat (net (At (Dynamic k) a)) event.net) [
        | inl m ↦ elim (clock-known deck h.frame k c e) [
          | inl off ↦ inr (now_at event (net (At (Dynamic k) a)) m ∙ spot_charged k c e off a i m)
          | inr on ↦ elim (dec_previous up c.clock) [
            | inl early ↦ (let f = held_side k c e on early in rw (keeper_spot s.style c a f.0 i) f.1)
            | inr free ↦ inl (now_at event (net (At (Dynamic k) a)) m ∙ (spot_event k c e on free a i m).1)
          ]
        ]
        | inr ne ↦ rw (kept_at event (net (At (Dynamic k) a)) ne) ((h.cells.sides k c e).spots_known a i)
      ]

  pub spots_idle_after : (k : CellSide) (c : DynamicStage) → IsSideAt s k c → value_of before (net (Clock c.clock)) ≡ Zero → (a : Spot) → IsDynamicSpot s.style c a
      → (value_of (after_next event) (net (At (Dynamic k) a)) ≡ One) ⊎ (up c.clock ≡ AfterFall)
  spots_idle_after k c e off a i =
      elim (dec_nat (net (At (Dynamic k) a)) event.net) [
        | inl m ↦ inl (now_at event (net (At (Dynamic k) a)) m ∙ spot_charged k c e off a i m)
        | inr ne ↦ elim ((h.cells.sides k c e).spots_idle off a i) [ inl o ↦ inl (kept_at event (net (At (Dynamic k) a)) ne ∙ o) | inr p ↦ inr p ]
      ]

  -- the output of a cell
  module _ (k : ℕ) (c : DominoCell) (e : IsCellAt s k c) where
    moves_to : net (At (Output k) Top) ≡ event.net → event.value ≡ opposite (static_value net before (dynamic_nets k c.right))
    moves_to m =
        inverted deck h.frame event (λ b. net (At (Output k) b)) (dynamic_nets k c.right)
        (output_is deck k c e) (series-known deck h k c e) m

    -- while its clock is high its dynamic nets fall, and while it is low they rise
    nets_fall : value_of before (net (Clock c.clock)) ≡ One → static_value net before (dynamic_nets k c.right) ≡ Zero → static_value net (after_next event) (dynamic_nets k c.right) ≡ Zero
    nets_fall on =
        tree_falls (λ a. value_of before (net a)) (λ a. value_of (after_next event) (net a)) (dynamic_nets k c.right)
        (each_dynamic s (λ a. value_of before (net a) ≡ Zero → value_of (after_next event) (net a) ≡ Zero) k c e (λ d z side i x.
        elim (dec_nat (net (At (Dynamic (record { cell = k; side = side })) Top)) event.net) [
          | inl m ↦ elim (dec_previous up d.clock) [
            | inl early ↦ (held_side (record { cell = k; side = side }) d i (rw z on) early).2 ∙ x
            | inr free ↦ now_at event _ m ∙ (dynamic_falls (record { cell = k; side = side }) d i (rw z on) free m).1
          ]
          | inr ne ↦ kept_at event _ ne ∙ x
        ]))

    nets_rise : value_of before (net (Clock c.clock)) ≡ Zero → static_value net before (dynamic_nets k c.right) ≡ One → static_value net (after_next event) (dynamic_nets k c.right) ≡ One
    nets_rise off =
        tree_rises (λ a. value_of before (net a)) (λ a. value_of (after_next event) (net a)) (dynamic_nets k c.right)
        (each_dynamic s (λ a. value_of before (net a) ≡ One → value_of (after_next event) (net a) ≡ One) k c e (λ d z side i x.
        elim (dec_nat (net (At (Dynamic (record { cell = k; side = side })) Top)) event.net) [
          | inl m ↦ now_at event _ m ∙ spot_charged (record { cell = k; side = side }) d i (rw z off) Top tt m
          | inr ne ↦ kept_at event _ ne ∙ x
        ]))

    -- while its clock is high an event of the output is a rise
    pub output_rises : value_of before (net (Clock c.clock)) ≡ One → net (At (Output k) Top) ≡ event.net
        → (value_of before (net (At (Output k) Top)) ≡ Zero) × (event.value ≡ One) × (static_value net before (dynamic_nets k c.right) ≡ Zero)
    output_rises on m =
        elim (series-known deck h k c e) [
          | inl w ↦
              let one : event.value ≡ One = moves_to m ∙ rw w refl in
              elim ((h.cells.outs k c e).evaluated on) [ inl z ↦ (z, one, w) | inr q ↦ absurd (not_still event _ m (q.0 ∙ sym one)) ]
          | inr w ↦
              let zero : event.value ≡ Zero = moves_to m ∙ rw w refl in
              absurd (elim ((h.cells.outs k c e).evaluated on) [ inl z ↦ not_still event _ m (z ∙ sym zero) | inr q ↦ zero_or_one (sym q.1 ∙ w) ])
        ]

    pub evaluated_after : value_of before (net (Clock c.clock)) ≡ One → (value_of (after_next event) (net (At (Output k) Top)) ≡ Zero)
        ⊎ ((value_of (after_next event) (net (At (Output k) Top)) ≡ One) × (static_value net (after_next event) (dynamic_nets k c.right) ≡ Zero))
    evaluated_after on =
        elim (dec_nat (net (At (Output k) Top)) event.net) [
          | inl m ↦ let r = output_rises on m in inr (now_at event _ m ∙ r.1, nets_fall on r.2)
          | inr ne ↦ elim ((h.cells.outs k c e).evaluated on) [
            | inl z ↦ inl (kept_at event _ ne ∙ z)
            | inr q ↦ inr (kept_at event _ ne ∙ q.0, nets_fall on q.1)
          ]
        ]

    pub idle_after : value_of before (net (Clock c.clock)) ≡ Zero
        → ((static_value net (after_next event) (dynamic_nets k c.right) ≡ One) × (value_of (after_next event) (net (At (Output k) Top)) ≡ Zero))
        ⊎ ((up c.clock ≡ AfterFall) × IsKnown (value_of (after_next event) (net (At (Output k) Top)))
        × (static_value net (after_next event) (dynamic_nets k c.right) ≡ Zero → value_of (after_next event) (net (At (Output k) Top)) ≡ One))
    idle_after off =
        elim (dec_nat (net (At (Output k) Top)) event.net) [
          | inl m ↦ elim ((h.cells.outs k c e).idle off) [
            | inl p ↦ inl (nets_rise off p.0, now_at event _ m ∙ (moves_to m ∙ rw p.0 refl))
            | inr p ↦ inr (
              p.0,
              rw (now_at event _ m ∙ moves_to m) (opposite-known _ (series-known deck h k c e)),
              (λ x. now_at event _ m ∙ (moves_to m ∙ rw (was_zero x) refl)),
            )
          ]
          | inr ne ↦ elim ((h.cells.outs k c e).idle off) [
            | inl p ↦ inl (nets_rise off p.0, kept_at event _ ne ∙ p.1)
            | inr p ↦ inr (p.0, rw (kept_at event _ ne) p.1, (λ x. kept_at event _ ne ∙ p.2 (was_zero x)))
          ]
        ]
      where
        was_zero : static_value net (after_next event) (dynamic_nets k c.right) ≡ Zero → static_value net before (dynamic_nets k c.right) ≡ Zero
        was_zero x =
            elim (series-known deck h k c e) [
              | inl w ↦ w
              | inr w ↦ absurd (zero_or_one (sym x ∙ nets_rise off w))
            ]
