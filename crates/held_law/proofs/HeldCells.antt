-- A cell that holds: its settled nets hold their targets, and stay settled at events and at moves.
use Rattle.std.specs.Prelude.{Contains}
use Rattle.std.proofs.Common.{Bool, List, [], arith, false, inl, inr, length, refl, suc, sym, true, zero, ℕ, ◌+◌, ◌<◌, ◌∙◌, ◌≡◌}
use Rattle.dom_base.specs.declared.tri.Tri.{Tri}
use Rattle.dom_base.specs.declared.tri.Tri.TheVariants.{One, Zero}
use Rattle.dom_base.proofs.Decided.{dec_tri}
use Rattle.deck.specs.Paths.{Ends, Possible}
use Rattle.deck.specs.Switches.{IsNotOff, IsOn, value_of}
use Rattle.deck.specs.declared.device.Device.{Device}
use Rattle.sp_network.specs.Tree.{EachLeaf, Leaf}
use Rattle.domino_cell.specs.Stage.{IsSpot, Spot, Top}
use Rattle.domino_cell.specs.Tapped.{IsTapped}
use Rattle.domino_cell.specs.declared.style.Style.TheVariants.{Keeper as WithKeeper}
use Rattle.switch_model.specs.Targets.{IsAtRest}
use Rattle.switch_model.proofs.Targets.{target_exists}
use Rattle.port_runs.specs.Environment.{Place, bit}
use Rattle.domino_law.specs.Branches.{dynamic}
use Rattle.domino_law.specs.Honest.{HasPreviousFallen, IsHonest, cell_conduction, static_value}
use Rattle.domino_law.specs.LooseDeck.{HoldsDeck}
use Rattle.domino_law.specs.Nets.{At, Clock, Complement, Dynamic, FromDynamic, FromOutput, Gate, High, Low, Minus, Net, Output, Plus, Vdd, Vss, gate_net, left_side, own}
use Rattle.domino_law.specs.Places.{AfterFall, ClockState}
use Rattle.domino_law.specs.Shape.{DominoCell, IsCellAt, IsLeafOf, IsOfClocks, MayOverlap, Shape, dynamic_nets, left_stage}
use Rattle.domino_law.proofs.DeckParts.{clocks_at, complement_is, dynamic_is, known_leaves, output-known, output_is, own-known, previous_overlaps, series-known, up_of, zero_or_one}
use Rattle.domino_law.proofs.Events.{held_output}
use Rattle.domino_law.proofs.FrameEvents.{inverter_stays, leaf_stays}
use Rattle.domino_law.proofs.HonestTargets.{as_value}
use Rattle.domino_law.proofs.Leaves.{EachLeaf-both, EachLeaf-weaker}
use Rattle.domino_law.proofs.NetEvents.{NextEvent, after_next, source_kept, stays_at_target}
use Rattle.domino_law.proofs.Places.{clock_opposed, clock_shut}
use Rattle.domino_law.proofs.Statics.{left_is}
use Rattle.held_law.specs.HeldNets.{IsAtTarget}
use Rattle.held_law.proofs.CellNets.{IsHolding, same_sources, side_closed, side_fewer, side_free, side_on, to_supply}
use Rattle.held_law.proofs.Settled.{IsSettled, lands, settled_holds, settles, stays_settled, sure}

module _ {devices : List Device} {is_source : ℕ → Bool} {net : Net → ℕ} {s : Shape} (deck : HoldsDeck devices is_source net s)
    (may : MayOverlap s)
    (k : ℕ) (c : DominoCell) (e : IsCellAt s k c) where
  pub keeper_stage : IsTapped devices is_source (λ a. net (At (Dynamic (left_side k)) a))
      (dynamic WithKeeper net (left_side k) (left_stage c)) []
  keeper_stage = rw may.keepers at (dynamic_is deck (left_side k) _ (left_is s k c e))

  -- the net is the cell's dynamic net, its foot or an inner net of its tree
  abbrev pub IsHeldNet : ℕ → Type 0
  IsHeldNet x = (a : Spot) × IsSpot (dynamic WithKeeper net (left_side k) (left_stage c)) a × (x ≡ net (At (Dynamic (left_side k)) a))

  abbrev pub Holding : List Tri → Type 0
  Holding values =
      IsHolding devices is_source net (λ a. net (At (Dynamic (left_side k)) a)) (left_side k) (left_stage c) keeper_stage
      (deck.sources Vdd tt) (deck.sources Vss tt) values

  pub held_free : (x : ℕ) → IsHeldNet x → is_source x ≡ false
  held_free x n =
      side_free devices is_source net (λ a. net (At (Dynamic (left_side k)) a)) (left_side k) (left_stage c) keeper_stage
      (deck.sources Vdd tt) (deck.sources Vss tt) x n

  pub held_closed : (d : Device) (x y : ℕ) → IsHeldNet x → Contains devices d → Ends d x y → is_source y ≡ false → IsHeldNet y
  held_closed =
      side_closed devices is_source net (λ a. net (At (Dynamic (left_side k)) a)) (left_side k) (left_stage c) keeper_stage
      (deck.sources Vdd tt) (deck.sources Vss tt)

  module _ (values : List Tri) (h : Holding values) where
    held_on : (d : Device) (x y : ℕ) → IsHeldNet x → Contains devices d → Ends d x y → IsNotOff values d → IsOn values d
    held_on =
        side_on devices is_source net (λ a. net (At (Dynamic (left_side k)) a)) (left_side k) (left_stage c) keeper_stage
        (deck.sources Vdd tt) (deck.sources Vss tt) values h

    -- where it is settled it holds its target
    pub settled_target : (x : ℕ) → IsHeldNet x → IsSettled devices is_source values x → IsAtTarget devices is_source values x
    settled_target x n =
        settled_holds devices is_source values x (sure devices is_source IsHeldNet held_free held_closed values held_on x n) (held_free x n)

    -- at rest it is settled
    pub rest_settles : IsAtRest devices is_source values
        → ((a : Spot) → IsSpot (dynamic WithKeeper net (left_side k) (left_stage c)) a → net (At (Dynamic (left_side k)) a) < length values)
        → (x : ℕ) → IsHeldNet x → IsSettled devices is_source values x
    rest_settles rest range =
        settles devices is_source IsHeldNet held_free held_closed values held_on at_target
        (same_sources devices is_source net (λ a. net (At (Dynamic (left_side k)) a)) (left_side k) (left_stage c) keeper_stage
        (deck.sources Vdd tt) (deck.sources Vss tt) values h)
      where
        at_target : (x : ℕ) → IsHeldNet x → IsAtTarget devices is_source values x
        at_target x n =
            let t = target_exists devices is_source values x (held_free x n) in
            elim (dec_tri (value_of values x) t.0) [
              | inl z ↦ as_value devices is_source values x t.0 (value_of values x) z t.1
              | inr ne ↦ absurd (rest x t.0 (rw n.2 (range n.0 n.1)) (held_free x n, t.1, ne))
            ]

  -- where its leaves at 0 stay at 0, and its clock, its nets, its output and the supplies keep their values, it stays settled
  pub keeps_settled : (before after : List Tri) → Holding before
      → value_of after (net (Clock c.clock)) ≡ value_of before (net (Clock c.clock))
      → value_of after (net (At (Output k) Top)) ≡ value_of before (net (At (Output k) Top))
      → EachLeaf (λ g. value_of before (net (gate_net g)) ≡ Zero → value_of after (net (gate_net g)) ≡ Zero) c.tree
      → value_of after (net Vdd) ≡ value_of before (net Vdd) → value_of after (net Vss) ≡ value_of before (net Vss)
      → ((x : ℕ) → IsHeldNet x → value_of after x ≡ value_of before x)
      → (x : ℕ) → IsHeldNet x → IsSettled devices is_source before x → IsSettled devices is_source after x
  keeps_settled before after h clock out leaves high low same x n =
      stays_settled devices is_source IsHeldNet held_free held_closed before after
      (side_fewer devices is_source net (λ a. net (At (Dynamic (left_side k)) a)) (left_side k) (left_stage c) keeper_stage
      (deck.sources Vdd tt) (deck.sources Vss tt) before after clock out leaves)
      x n (same x n) (λ y p. by y p (is_source y) refl)
    where
      by : (y : ℕ) → Possible devices is_source before x y → (b : Bool) → is_source y ≡ b → value_of after y ≡ value_of before y
      by y p false z = same y (lands devices is_source IsHeldNet held_free held_closed p.1 n p.2 z)
      by y p true z =
          elim (to_supply devices is_source net (λ a. net (At (Dynamic (left_side k)) a)) (left_side k) (left_stage c) keeper_stage
          (deck.sources Vdd tt) (deck.sources Vss tt) before h x y n p z) [
            | inl w ↦ rw w low
            | inr w ↦ rw w high
          ]

module _ {devices : List Device} {is_source : ℕ → Bool} {net : Net → ℕ} {s : Shape} (deck : HoldsDeck devices is_source net s)
    {place : Place} {up : ℕ → ClockState} {old new pins : ℕ → Bool} {kept : ℕ → Tri} {before : List Tri}
    (h : IsHonest devices is_source net s place up old new pins kept before)
    (k : ℕ) (c : DominoCell) (e : IsCellAt s k c) (on : value_of before (net (Clock c.clock)) ≡ One) where
  pub clock_there : c.clock < s.clocks
  clock_there = (deck.shape).clocks_are (left_side k) _ (left_is s k c e)

  -- a cell holds, where its tree doesn't conduct while its output is 0
  pub holds_where : (may : MayOverlap s)
      → (value_of before (net (At (Output k) Top)) ≡ Zero → cell_conduction net before (left_stage c) ≡ Zero)
      → Holding deck may k c e before
  holds_where may shut =
      record {
        high = h.frame.sources Vdd tt;
        low = h.frame.sources Vss tt;
        on = on;
        out = output-known deck h k c e;
        leaves = known_leaves deck h (left_side k) _ (left_is s k c e);
        shut = shut;
      }

  -- from the fall of the clock before its own
  module _ (early : HasPreviousFallen up c.clock) where
    pub overlap_there : MayOverlap s
    overlap_there = previous_overlaps deck h.frame c.clock (up_of deck h.frame c.clock clock_there on) early

    pub shut_where : value_of before (net (At (Output k) Top)) ≡ Zero → cell_conduction net before (left_stage c) ≡ Zero
    shut_where z = (h.cells.held k c e on early).shut (bit_zero _ (sym (h.cells.held k c e on early).pair.1 ∙ z))
      where
        bit_zero : (b : Bool) → bit b ≡ Zero → b ≡ false
        bit_zero false w = refl
        bit_zero true w = absurd (zero_or_one (sym w))

    pub holding : Holding deck overlap_there k c e before
    holding = holds_where overlap_there shut_where

    -- an event leaves its leaves at 0 there
    module _ (event : NextEvent devices is_source before) where
      -- a cell whose clock has fallen, and whose output is 0
      stays_low : (j : ℕ) (d : DominoCell) → IsCellAt s j d → up d.clock ≡ AfterFall → value_of before (net (At (Output j) Top)) ≡ Zero
          → value_of (after_next event) (net (At (Output j) Top)) ≡ Zero
      stays_low j d f z off =
          inverter_stays deck h.frame event (λ b. net (At (Output j) b)) (dynamic_nets j d.right) (output_is deck j d f)
          (series-known deck h j d f)
          (off ∙ sym (rw high refl)) ∙ off
        where
          clock_low : value_of before (net (Clock d.clock)) ≡ Zero
          clock_low = h.frame.sources (Clock d.clock) ((deck.shape).clocks_are (left_side j) _ (left_is s j d f)) ∙ rw z refl

          high : static_value net before (dynamic_nets j d.right) ≡ One
          high = elim (series-known deck h j d f) [
            | inr w ↦ w
            | inl w ↦ elim ((h.cells.outs j d f).idle clock_low) [
              | inl p ↦ absurd (zero_or_one (sym w ∙ p.0))
              | inr p ↦ absurd (zero_or_one (sym off ∙ p.2 w))
            ]
          ]

      stays_zero : (g : Gate) → IsLeafOf s k g × IsOfClocks s c.clock g → value_of before (net (gate_net g)) ≡ Zero
          → value_of (after_next event) (net (gate_net g)) ≡ Zero
      stays_zero (Plus p) a off =
          leaf_stays deck h.frame event p a.0 (clock_shut place _ (clocks_at deck h.frame c.clock clock_there) on) ∙ off
      stays_zero (Minus p) a off =
          inverter_stays deck h.frame event (λ b. net (At (Complement p) b)) (Leaf (own p)) (complement_is deck p a.0)
          (own-known deck h.frame p ((deck.shape).complements_are p a.0))
          (clock_opposed place _ _ _ (clocks_at deck h.frame c.clock clock_there) on (h.frame.opposed p a.0)) ∙ off
      stays_zero (FromOutput j) ((l, (d, f)), near) off = elim (near d f) [
        | inl z ↦ held_output deck h event j d f (rw z on) (rw z early) ∙ off
        | inr z ↦ stays_low j d f (previous d.clock c.clock z early) off
      ]
        where
          previous : (m i : ℕ) → m + 1 ≡ i → HasPreviousFallen up i → up m ≡ AfterFall
          previous m zero z q = absurd q
          previous m (suc i) z q = rw (same m i z) q
            where
              same : (m i : ℕ) → m + 1 ≡ suc i → m ≡ i
              same m i z = omega arith
      stays_zero (FromDynamic j) a off = absurd a.0
      stays_zero High a off = absurd a.0
      stays_zero Low a off = absurd a.0

      -- so its nets stay settled
      pub event_settles : ((x : ℕ) → IsHeldNet deck overlap_there k c e x → IsSettled devices is_source before x)
          → (x : ℕ) → IsHeldNet deck overlap_there k c e x → IsSettled devices is_source (after_next event) x
      event_settles settled x n =
          keeps_settled deck overlap_there k c e before (after_next event) holding
          (source_kept event (net (Clock c.clock)) (deck.sources (Clock c.clock) clock_there)) (held_output deck h event k c e on early)
          (EachLeaf-weaker _ (λ g. value_of before (net (gate_net g)) ≡ Zero → value_of (after_next event) (net (gate_net g)) ≡ Zero)
          stays_zero c.tree
          (EachLeaf-both (IsLeafOf s k) (IsOfClocks s c.clock) c.tree ((deck.shape).leaves (left_side k) _ (left_is s k c e))
          (overlap_there.reads k c e)))
          (source_kept event (net Vdd) (deck.sources Vdd tt)) (source_kept event (net Vss) (deck.sources Vss tt))
          (λ y m. stays_at_target event y (value_of before y) refl
          (settled_target deck overlap_there k c e before holding y m (settled y m)))
          x n (settled x n)
