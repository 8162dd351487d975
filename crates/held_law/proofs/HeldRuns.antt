-- In each state of each legal run the nets of cells that hold are settled.
use Rattle.std.specs.Prelude.{◌≢◌, ◌⊎◌}
use Rattle.std.proofs.Common.{Bool, List, ap, arith, false, inl, inr, length, refl, subst, suc, sym, true, zero, ℕ, ◌+◌, ◌<◌, ◌∙◌, ◌≡◌}
use Rattle.dom_base.specs.declared.kind.Kind.TheVariants.{N as nch}
use Rattle.dom_base.specs.declared.tri.Tri.{Tri}
use Rattle.dom_base.specs.declared.tri.Tri.TheVariants.{One, Zero}
use Rattle.dom_base.specs.Tri.{opposite}
use Rattle.dom_base.proofs.Decided.{dec_nat}
use Rattle.dom_base.proofs.Bools.{never}
use Rattle.deck.specs.Switches.{value_of}
use Rattle.sp_network.specs.Tree.{EachLeaf, Leaf, Series, inner_count}
use Rattle.sp_network.proofs.TreeImages.{inner_count-map_tree, tree_conduction-same}
use Rattle.domino_cell.specs.Stage.{Inside, IsSpot, Spot, Top}
use Rattle.domino_cell.specs.declared.style.Style.TheVariants.{Keeper as WithKeeper}
use Rattle.switch_model.specs.LinksData.{LinksData, is_first}
use Rattle.switch_model.specs.Targets.{EventAt}
use Rattle.port_runs.specs.Environment.{Capture, Captured, Evaluation, Fall, Happens, IsNext, Launch, Launched, Move, Moves, Open, Pins, Place, Precharge, Released, Reset, Rise, Step, Take, World, after_move, fallen_at, fallen_with, none_fallen, risen_at}
use Rattle.port_runs.specs.LegalSteps.{RestsIn}
use Rattle.port_runs.proofs.Steps.{leads_keep}
use Rattle.domino_law.specs.Branches.{dynamic, dynamic_taps, numbered}
use Rattle.domino_law.specs.Honest.{HasPreviousFallen, cell_conduction, static_value}
use Rattle.domino_law.specs.LooseDeck.{IsLooseDeck, IsPart, IsSpotOf}
use Rattle.domino_law.specs.Nets.{At, CellSide, Clock, Complement, Dynamic, Gate, Master, Net, Next, Output, Part, Sink, Slave, Vdd, Vss, gate_net, left_side}
use Rattle.domino_law.specs.OwnRun.{bit_at, own_bit}
use Rattle.domino_law.specs.Places.{AfterFall, AreClocksAt, AreSources, BeforeRise, Raised, up_at}
use Rattle.domino_law.specs.Runs.{ChangesSources, GivesSources, IsHonestWorld, IsPower, IsReady, Run, TakesStep, clocked_deck, state_before}
use Rattle.domino_law.specs.Shape.{DominoCell, DynamicStage, IsCellAt, IsLeafOf, IsSideAt, MayOverlap, Shape, dynamic_nets, left_stage}
use Rattle.domino_law.proofs.Carried.{gate-same, same}
use Rattle.domino_law.proofs.ClockOrder.{before_raised, fallen_with-other, fallen_with-same, from_fallen, from_open, from_raised, is_fallen, is_raised, none_previous, raised_fallen, risen_same, same_previous}
use Rattle.domino_law.proofs.DeckParts.{are_simple, leaf_is_gate, opposite_twice, output_is, series-known, up_of}
use Rattle.domino_law.proofs.HonestTargets.{as_value}
use Rattle.domino_law.proofs.Leaves.{EachLeaf-weaker}
use Rattle.domino_law.proofs.LooseDecks.{spot_of}
use Rattle.domino_law.proofs.NetEvents.{next_event}
use Rattle.domino_law.proofs.Parts.{static_target}
use Rattle.domino_law.proofs.SimpleCells.{simple_output_inner, simple_side}
use Rattle.domino_law.proofs.Statics.{leaf_net, left_is, side_unique}
use Rattle.domino_law.proofs.Worlds.{IsGood, good_beyond, move_honest, power_good, ready_honest, step_good}
use Rattle.held_law.specs.HeldNets.{IsAtTarget}
use Rattle.held_law.specs.Laws.{HeldCellsHoldTargets, IsPartOfCell}
use Rattle.held_law.proofs.HeldCells.{Holding, IsHeldNet, clock_there, event_settles, held_free, holds_where, keeps_settled, overlap_there, rest_settles, settled_target, shut_where}
use Rattle.held_law.proofs.Settled.{IsSettled}

-- beside a clock that is up the one before it has not fallen in reset
not_reset : (place : Place) (risen : ℕ) (fallen : ℕ → Bool) (i : ℕ) → HasPreviousFallen (up_at place risen fallen) i → place ≢ Reset
not_reset place risen fallen zero early z = early
not_reset Reset risen fallen (suc i) early z = let w : BeforeRise ≡ AfterFall = early in cc
not_reset _ risen fallen (suc i) early z = cc

-- A clock that is up after a move, where the one before it has fallen, was up; and the pins stay.
module _ (clocks : ℕ) where
  open_back : (place place' : Place) (risen : ℕ) (fallen : ℕ → Bool) → IsNext place place' → (place' ≡ Capture → risen ≡ clocks)
      → (i : ℕ) → i < clocks
      → up_at place' (risen_at place' risen) (fallen_at place' fallen) i ≡ Raised
      → HasPreviousFallen (up_at place' (risen_at place' risen) (fallen_at place' fallen)) i → up_at place risen fallen i ≡ Raised
  open_back Reset Released risen fallen f all i l r early = absurd (before_raised r)
  open_back Pins Evaluation risen fallen f all i l r early =
      absurd (none_previous (up_at Evaluation 1 none_fallen) (λ j z. never (from_fallen 1 none_fallen j z)) i early)
    where
      never : false ≡ true → ⊥
      never z = cc
  open_back Evaluation Capture risen fallen f all i l r early = risen_same risen fallen i (rw (all refl) l) ∙ r
  open_back Capture Captured risen fallen f all i l r early = r
  open_back Captured Precharge risen fallen f all i l r early = absurd (raised_fallen (sym r))
  open_back Precharge Launch risen fallen f all i l r early = absurd (before_raised r)
  open_back Launch Launched risen fallen f all i l r early = absurd (before_raised r)
  open_back _ _ risen fallen f all i l r early = absurd f

  rise_back : (risen : ℕ) (fallen : ℕ → Bool) (i : ℕ)
      → ((j : ℕ) → up_at Evaluation risen fallen j ≡ AfterFall → up_at Evaluation risen fallen (suc j) ≢ BeforeRise)
      → up_at Evaluation (risen + 1) fallen i ≡ Raised → HasPreviousFallen (up_at Evaluation (risen + 1) fallen) i
      → (up_at Evaluation risen fallen i ≡ Raised) × HasPreviousFallen (up_at Evaluation risen fallen) i
  rise_back risen fallen i order r early = (raised i r was, was)
    where
      was : HasPreviousFallen (up_at Evaluation risen fallen) i
      was =
          same_previous (up_at Evaluation (risen + 1) fallen) (up_at Evaluation risen fallen)
          (λ j z. is_fallen risen fallen j (from_fallen (risen + 1) fallen j z)) i early

      raised : (i : ℕ) → up_at Evaluation (risen + 1) fallen i ≡ Raised → HasPreviousFallen (up_at Evaluation risen fallen) i
          → up_at Evaluation risen fallen i ≡ Raised
      raised zero r q = absurd q
      raised (suc j) r q =
          let up = (from_raised (risen + 1) fallen (suc j) r).1 in
          elim (from_open risen fallen (suc j) (order j q)) [
            | inl z ↦ absurd (never {b = fallen (suc j)} z up)
            | inr l ↦ is_raised risen fallen (suc j) l up
          ]

  fall_back : (k risen : ℕ) (fallen : ℕ → Bool) (i : ℕ) → up_at Evaluation risen (fallen_with k fallen) i ≡ Raised
      → up_at Evaluation risen fallen i ≡ Raised
  fall_back k risen fallen i r =
      let up = from_raised risen (fallen_with k fallen) i r in
      elim (dec_nat i k) [
        | inl z ↦ absurd (never {b = fallen_with k fallen k} (fallen_with-same k fallen) (rw z at up.1))
        | inr ne ↦ is_raised risen fallen i up.0 (sym (fallen_with-other k fallen i ne) ∙ up.1)
      ]

module _ {links : LinksData} {net : Net → ℕ} {s : Shape} (loose : IsLooseDeck links net s) where
  -- the nets of each cell that holds are settled
  pub record IsHeldWorld (w : World) : Type 0 where
    pub good : IsGood loose w
    pub settled : (may : MayOverlap s) (k : ℕ) (c : DominoCell) (e : IsCellAt s k c) → up_at w.place w.risen w.fallen c.clock ≡ Raised
        → HasPreviousFallen (up_at w.place w.risen w.fallen) c.clock → (x : ℕ) → IsHeldNet loose.deck may k c e x
        → IsSettled links.devices (is_first links.sources) w.values x

  pub held_honest : (w : World) → IsGood loose w → (i : ℕ) → HasPreviousFallen (up_at w.place w.risen w.fallen) i
      → IsHonestWorld links net s w
  held_honest w good i early = good_beyond loose w good (not_reset w.place w.risen w.fallen i early)

  clock_up : (w : World) → IsHonestWorld links net s w → (i : ℕ) → i < s.clocks → up_at w.place w.risen w.fallen i ≡ Raised
      → value_of w.values (net (Clock i)) ≡ One
  clock_up w h i l r = h.frame.sources (Clock i) l ∙ rw r refl

  range_there : (may : MayOverlap s) (k : ℕ) (c : DominoCell) (e : IsCellAt s k c) (values : List Tri) → length values ≡ links.nets
      → (a : Spot)
      → IsSpot (dynamic WithKeeper net (left_side k) (left_stage c)) a → net (At (Dynamic (left_side k)) a) < length values
  range_there may k c e values whole a i =
      rw whole (loose.in_range (Dynamic (left_side k)) a
      (spot_of s net (Dynamic (left_side k)) (dynamic s.style net (left_side k) (left_stage c)) (dynamic_taps s.style net (left_stage c))
      (left_stage c, left_is s k c e, refl, refl) a
      (subst (λ style. IsSpot (dynamic style net (left_side k) (left_stage c)) a) (sym may.keepers) i)))

  -- an event
  event_held : (n : ℕ) (w : World) (values : List Tri) → EventAt links.devices (is_first links.sources) n w.values values → IsHeldWorld w
      → (may : MayOverlap s) (k : ℕ) (c : DominoCell) (e : IsCellAt s k c) → up_at w.place w.risen w.fallen c.clock ≡ Raised
      → HasPreviousFallen (up_at w.place w.risen w.fallen) c.clock → (x : ℕ) → IsHeldNet loose.deck may k c e x
      → IsSettled links.devices (is_first links.sources) values x
  event_held n w values event g may k c e r early x m =
      let h = held_honest w g.good c.clock early in
      let on = clock_up w h c.clock ((loose.deck.shape).clocks_are (left_side k) _ (left_is s k c e)) r in
      rw (event.3) (event_settles loose.deck h k c e on early (next_event event)
      (λ y q. g.settled (overlap_there loose.deck h k c e on early) k c e r early y q) x m)

  -- a move: at rest they are settled, and when a clock rises they were
  move_back : (move : Move) (w : World) → IsReady links s move w → AreClocksAt s w.place (up_at w.place w.risen w.fallen) → (i : ℕ)
      → i < s.clocks
      → up_at (after_move move w).place (after_move move w).risen (after_move move w).fallen i ≡ Raised
      → HasPreviousFallen (up_at (after_move move w).place (after_move move w).risen (after_move move w).fallen) i
      → (up_at w.place w.risen w.fallen i ≡ Raised) × ((after_move move w).pins ≡ w.pins)
      × (RestsIn links w ⊎ HasPreviousFallen (up_at w.place w.risen w.fallen) i)
  move_back (Open place) w r clocks i l up early =
      (open_back s.clocks w.place place w.risen w.fallen r.0 r.2 i l up early, refl, inl r.1)
  move_back (Take pins) w r clocks i l up early = absurd (before_raised up)
  move_back Rise w r clocks i l up early = by w.place r.0 clocks up early
    where
      by : (pl : Place) → pl ≡ Evaluation → AreClocksAt s pl (up_at pl w.risen w.fallen) → up_at pl (w.risen + 1) w.fallen i ≡ Raised
          → HasPreviousFallen (up_at pl (w.risen + 1) w.fallen) i
          → (up_at pl w.risen w.fallen i ≡ Raised) × (w.pins ≡ w.pins) × (RestsIn links w ⊎ HasPreviousFallen (up_at pl w.risen w.fallen) i)
      by Evaluation z clocks up early = let b = rise_back s.clocks w.risen w.fallen i clocks.after_next up early in (b.0, refl, inr b.1)
      by _ z clocks up early = absurd (cc)
  move_back (Fall k) w r clocks i l up early = by w.place r.0 up
    where
      by : (pl : Place) → pl ≡ Evaluation → up_at pl w.risen (fallen_with k w.fallen) i ≡ Raised
          → (up_at pl w.risen w.fallen i ≡ Raised) × (w.pins ≡ w.pins) × (RestsIn links w ⊎ HasPreviousFallen (up_at pl w.risen w.fallen) i)
      by Evaluation z up = (fall_back s.clocks k w.risen w.fallen i up, refl, inl r.1)
      by _ z up = absurd (cc)

  move_held : (move : Move) (w : World) (values : List Tri) → IsReady links s move w
      → ChangesSources (is_first links.sources) w.values values
      → AreSources net s (after_move move w).place (after_move move w).risen (after_move move w).fallen (bit_at (after_move move w).pins) values
      → IsHeldWorld w → (may : MayOverlap s) (k : ℕ) (c : DominoCell) (e : IsCellAt s k c)
      → up_at (after_move move w).place (after_move move w).risen (after_move move w).fallen c.clock ≡ Raised
      → HasPreviousFallen (up_at (after_move move w).place (after_move move w).risen (after_move move w).fallen) c.clock
      → (x : ℕ) → IsHeldNet loose.deck may k c e x → IsSettled links.devices (is_first links.sources) values x
  move_held move w values ready only src g may k c e up early x m =
      keeps_settled loose.deck may k c e w.values values there
      (on_after ∙ sym on_before) (stays (Output k) (c, e))
      (EachLeaf-weaker _ (λ g. value_of w.values (net (gate_net g)) ≡ Zero → value_of values (net (gate_net g)) ≡ Zero)
      (λ g z off. leaf_stays g z ∙ off) c.tree leaves)
      (src Vdd tt ∙ sym (hb.frame.sources Vdd tt)) (src Vss tt ∙ sym (hb.frame.sources Vss tt))
      (λ y q. only.others y (held_free loose.deck may k c e y q)) x m settled
    where
      hb : IsHonestWorld links net s w
      hb = ready_honest loose move w ready g.good

      ha : IsHonestWorld links net s (record (after_move move w) { values = values })
      ha = move_honest loose move w values ready only src g.good.whole hb

      there_clock : c.clock < s.clocks
      there_clock = (loose.deck.shape).clocks_are (left_side k) _ (left_is s k c e)

      back : (up_at w.place w.risen w.fallen c.clock ≡ Raised) × ((after_move move w).pins ≡ w.pins)
          × (RestsIn links w ⊎ HasPreviousFallen (up_at w.place w.risen w.fallen) c.clock)
      back = move_back move w ready hb.frame.clocks c.clock there_clock up early

      on_before : value_of w.values (net (Clock c.clock)) ≡ One
      on_before = clock_up w hb c.clock there_clock back.0

      on_after : value_of values (net (Clock c.clock)) ≡ One
      on_after = clock_up (record (after_move move w) { values = values }) ha c.clock there_clock up

      stays : (part : Part) → IsPart s part → value_of values (net (At part Top)) ≡ value_of w.values (net (At part Top))
      stays = same loose.deck w.values values only

      leaf_stays : (g : Gate) → IsLeafOf s k g → value_of values (net (gate_net g)) ≡ value_of w.values (net (gate_net g))
      leaf_stays g l =
          leaf_net s (λ a. value_of values (net a) ≡ value_of w.values (net a)) k g l
          (gate-same loose.deck hb.frame (after_move move w).place
          (up_at (after_move move w).place (after_move move w).risen (after_move move w).fallen)
          (bit_at (after_move move w).pins) values src only (λ p z. ap (λ v. bit_at v p) back.1) g (leaf_is_gate s k g l))

      leaves : EachLeaf (IsLeafOf s k) c.tree
      leaves = (loose.deck.shape).leaves (left_side k) _ (left_is s k c e)

      conducts : cell_conduction net w.values (left_stage c) ≡ cell_conduction net values (left_stage c)
      conducts =
          tree_conduction-same nch (λ g. value_of w.values (net (gate_net g))) (λ g. value_of values (net (gate_net g))) c.tree
          (EachLeaf-weaker _ (λ g. value_of w.values (net (gate_net g)) ≡ value_of values (net (gate_net g)))
          (λ g l. sym (leaf_stays g l)) c.tree leaves)

      there : Holding loose.deck may k c e w.values
      there =
          holds_where loose.deck hb k c e on_before may
          (λ z. conducts ∙ shut_where loose.deck ha k c e on_after early (stays (Output k) (c, e) ∙ z))

      settled : IsSettled links.devices (is_first links.sources) w.values x
      settled = elim back.2 [
        | inl rest ↦ rest_settles loose.deck may k c e w.values there rest (range_there may k c e w.values g.good.whole) x m
        | inr was ↦ g.settled may k c e back.0 was x m
      ]

  step_held : (step : Step) (w w' : World) → TakesStep links net s step w w' → IsHeldWorld w → IsHeldWorld w'
  step_held (Happens n) w w' d g =
      record {
        good = step_good loose (Happens n) w w' d g.good;
        settled =
            subst (λ u. (may : MayOverlap s) (k : ℕ) (c : DominoCell) (e : IsCellAt s k c) → up_at u.place u.risen u.fallen c.clock ≡ Raised
            → HasPreviousFallen (up_at u.place u.risen u.fallen) c.clock → (x : ℕ) → IsHeldNet loose.deck may k c e x
            → IsSettled links.devices (is_first links.sources) u.values x) (sym d.1) (event_held n w d.0 d.2 g);
      }
  step_held (Moves move) w w' d g =
      let m = d.1 in
      record {
        good = step_good loose (Moves move) w w' d g.good;
        settled =
            subst (λ u. (may : MayOverlap s) (k : ℕ) (c : DominoCell) (e : IsCellAt s k c) → up_at u.place u.risen u.fallen c.clock ≡ Raised
            → HasPreviousFallen (up_at u.place u.risen u.fallen) c.clock → (x : ℕ) → IsHeldNet loose.deck may k c e x
            → IsSettled links.devices (is_first links.sources) u.values x) (sym m.1) (move_held move w m.0 d.0 (m.2).0 (m.2).1 g);
      }

  -- the power state is one in which no cell holds
  power_held : (w : World) → IsPower links net s w → IsHeldWorld w
  power_held w p =
      record {
        good = power_good loose w p;
        settled = λ may k c e r early. absurd (not_reset w.place w.risen w.fallen c.clock early p.place);
      }

  pub run_held : (steps : List Step) (w w' : World) → IsPower links net s w → Run links net s steps w w' → IsHeldWorld w'
  run_held steps w w' p r = leads_keep (clocked_deck links s) (GivesSources links net s) IsHeldWorld step_held steps w w' r (power_held w p)

  -- so they are at their targets
  module _ (w : World) (g : IsHeldWorld w) (k : ℕ) (c : DominoCell) (e : IsCellAt s k c)
      (on : value_of w.values (net (Clock c.clock)) ≡ One)
      (early : HasPreviousFallen (up_at w.place w.risen w.fallen) c.clock) where
    abbrev h : IsHonestWorld links net s w
    h = held_honest w g.good c.clock early

    may_there : MayOverlap s
    may_there = overlap_there loose.deck h k c e on early

    pub held_nets : (may : MayOverlap s) (x : ℕ) → IsHeldNet loose.deck may k c e x
        → IsAtTarget links.devices (is_first links.sources) w.values x
    held_nets may x m =
        settled_target loose.deck may k c e w.values (holds_where loose.deck h k c e on may (shut_where loose.deck h k c e on early)) x m
        (g.settled may k c e (up_of loose.deck h.frame c.clock (clock_there loose.deck h k c e on) on) early x m)

    pub held_out : IsAtTarget links.devices (is_first links.sources) w.values (net (At (Output k) Top))
    held_out =
        let pair = (h.cells.held k c e on early).pair in
        let one : static_value net w.values (dynamic_nets k c.right) ≡ value_of w.values (net (At (Dynamic (left_side k)) Top)) =
        rw (are_simple loose.deck may_there k c e) refl in
        let value : value_of w.values (net (At (Output k) Top)) ≡ opposite (static_value net w.values (dynamic_nets k c.right)) =
        pair.1 ∙ sym (ap opposite one ∙ rw pair.0 (opposite_twice (own_bit s (bit_at w.pins) (bit_at (state_before s w)) k))) in
        as_value links.devices (is_first links.sources) w.values (net (At (Output k) Top))
        (opposite (static_value net w.values (dynamic_nets k c.right)))
        (value_of w.values (net (At (Output k) Top))) value
        (static_target links.devices (is_first links.sources) net w.values (h.frame.sources Vdd tt) (h.frame.sources Vss tt)
        (λ a. net (At (Output k) a))
        (dynamic_nets k c.right) (output_is loose.deck k c e) (series-known loose.deck h k c e))

    -- each spot of a part of the cell
    pub held_spots : (part : Part) (a : Spot) → IsPartOfCell k part → IsSpotOf s part a
        → IsAtTarget links.devices (is_first links.sources) w.values (net (At part a))
    held_spots (Dynamic side) a z i =
        let x = left side z (part_of side a i) in
        subst (λ q. IsAtTarget links.devices (is_first links.sources) w.values (net (At (Dynamic q) a))) (sym x)
        (held_nets may_there (net (At (Dynamic (left_side k)) a)) (a, spot a (subst (λ q. IsSpotOf s (Dynamic q) a) x i), refl))
      where
        part_of : (side : CellSide) (a : Spot) → IsSpotOf s (Dynamic side) a → (d : DynamicStage) × IsSideAt s side d
        part_of side Top i = i
        part_of side (Inside p j) i = (i.0, i.1)

        left : (side : CellSide) → side.cell ≡ k → (d : DynamicStage) × IsSideAt s side d → side ≡ left_side k
        left side z d = (simple_side s (are_simple loose.deck may_there) side d.0 d.1).2 ∙ ap left_side z

        spot : (a : Spot) → IsSpotOf s (Dynamic (left_side k)) a → IsSpot (dynamic WithKeeper net (left_side k) (left_stage c)) a
        spot Top i = tt
        spot (Inside p j) (d, at, z, l) = (
          record { kind = nch; tree = Series (numbered net c.tree) (Leaf (net (Clock c.clock))); supply = net Vss },
          rw z refl,
          within j (inner_count d.tree) (inner_count (numbered net c.tree))
              (inner_count-map_tree (λ g. net (gate_net g)) c.tree ∙ ap (λ (q : DynamicStage). inner_count q.tree)
              (side_unique s (left_side k) (left_stage c) d (left_is s k c e) at)) l,
        )
          where
            within : (j m n : ℕ) → n ≡ m → j < 1 + m → j < 1 + (n + 0)
            within j m n z l = omega arith
    held_spots (Output j) Top z i =
        subst (λ q. IsAtTarget links.devices (is_first links.sources) w.values (net (At (Output q) Top))) (sym z) held_out
    held_spots (Output j) (Inside p q) z (d, at, y, l) = absurd (simple_output_inner j d q (are_simple loose.deck may_there j d at) l)
    held_spots (Complement x) a z i = absurd z
    held_spots (Master x) a z i = absurd z
    held_spots (Slave x) a z i = absurd z
    held_spots (Next x) a z i = absurd z
    held_spots (Sink x) a z i = absurd z

pub held_cells_hold_targets : HeldCellsHoldTargets
held_cells_hold_targets links net s steps w w' loose p run k c e on early =
    held_spots loose w' (run_held loose steps w w' p run) k c e on early
