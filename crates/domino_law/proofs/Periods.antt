-- In an evaluation period a dynamic net falls at most once, and a domino output rises at most once.
use Rattle.std.specs.List.{AllByRecursion}
use Rattle.std.specs.Prelude.{◌≢◌, ◌⊎◌}
use Rattle.std.proofs.Common.{Bool, List, [], ap, false, inl, inr, refl, subst, sym, ℕ, ◌∙◌, ◌∷◌, ◌≡◌, true}
use Rattle.std.proofs.lemmas.List.{get_or-set_other, get_or-set_same}
use Rattle.dom_base.specs.Tri.{opposite}
use Rattle.dom_base.specs.declared.tri.Tri.{Tri}
use Rattle.dom_base.specs.declared.tri.Tri.TheVariants.{Unknown, Zero}
use Rattle.deck.specs.Switches.{value_of}
use Rattle.deck.specs.declared.device.Device.{Device}
use Rattle.sp_network.specs.Known.{IsKnown}
use Rattle.domino_cell.specs.Stage.{Spot, Top}
use Rattle.switch_model.specs.LinksData.{LinksData, is_first}
use Rattle.port_runs.specs.Environment.{Capture, Captured, Evaluation, Happens, IsNext, Launched, Moves, Open, Place, Precharge, Released, Reset, Rise, Step, Take, World, Fall, fallen_at}
use Rattle.port_runs.specs.Periods.{IsAtMostOnce, IsNever, IsInPeriodOf, IsOnceIn}
use Rattle.port_runs.proofs.Steps.{leads_cut}
use Rattle.domino_law.specs.Honest.{IsHonest}
use Rattle.domino_law.specs.LooseDeck.{HoldsDeck, IsLooseDeck}
use Rattle.domino_law.specs.Nets.{At, Net, Next, Output, Part, Sink, Dynamic, FromDynamic, Gate}
use Rattle.domino_law.specs.OrderLaws.{InPeriod}
use Rattle.domino_law.specs.Runs.{GivesSources, TakesStep, IsHonestWorld, Run, clocked_deck}
use Rattle.domino_law.specs.Shape.{Shape, DominoCell, IsCellAt, IsGate, gate_tree}
use Rattle.domino_law.proofs.DeckParts.{clock-known, gate-known, next_is, output-known, part-free, sink_is, spot-free, zero_or_one, value-known}
use Rattle.domino_law.proofs.DominoNets.{IsDomino, falls, rises_next, rises_output, rises_sink}
use Rattle.domino_law.proofs.Events.{spot_charged, spot_event, held_side, keeper_spot}
use Rattle.domino_law.proofs.EventsHonest.{next_stays, output_stays, sink_stays}
use Rattle.domino_law.proofs.Goals.{lag_event, output_event}
use Rattle.domino_law.proofs.Lags.{IsInStep, dynamic_goal, gate_goal}
use Rattle.domino_law.proofs.NetEvents.{NextEvent, after_next, next_event, no_event}
use Rattle.domino_law.proofs.Places.{IsCap}
use Rattle.domino_law.proofs.Tracked.{InStepWorld, IsTracked, power_tracked, run_tracked, step_tracked}
use Rattle.domino_law.specs.Places.{up_at, ClockState, AfterFall, BeforeRise, Raised}
use Rattle.domino_law.proofs.ClockOrder.{dec_previous, fallen_with-other, from_fallen, raised_fallen}

-- evaluation, capture and captured
abbrev pub IsPeriod : Place → Type 0
IsPeriod Evaluation = Unit {0}
IsPeriod Capture = Unit {0}
IsPeriod Captured = Unit {0}
IsPeriod _ = ⊥

period_place : (pl : Place) → IsPeriod pl → (pl ≡ Evaluation) ⊎ IsCap pl
period_place Evaluation h = inl refl
period_place Capture h = inr tt
period_place Captured h = inr tt
period_place _ h = absurd h

period_open : (pl pl' : Place) → IsPeriod pl → IsNext pl pl' → pl' ≢ Precharge → IsPeriod pl'
period_open Evaluation Capture p f ne = tt
period_open Evaluation _ p f ne = absurd f
period_open Capture Captured p f ne = tt
period_open Capture _ p f ne = absurd f
period_open Captured Precharge p f ne = absurd (ne refl)
period_open Captured _ p f ne = absurd f
period_open _ _ p f ne = absurd p

clash_goal : (s : Shape) (i : ℕ) (part : Part) (spot : Spot) (x y : Tri) → IsDomino s i part spot y → x ≡ opposite y → x ≡ y → ⊥
clash_goal s i part spot x y (falls e z d) p q = zero_or_one (sym q ∙ p)
clash_goal s i part spot x y (rises_output e z) p q = zero_or_one (sym p ∙ q)
clash_goal s i part spot x y (rises_next e f z) p q = zero_or_one (sym p ∙ q)
clash_goal s i part spot x y (rises_sink e f z) p q = zero_or_one (sym p ∙ q)

module _ {devices : List Device} {is_source : ℕ → Bool} {net : Net → ℕ} {s : Shape} (deck : HoldsDeck devices is_source net s)
    {place : Place} {up : ℕ → ClockState} {old new pins : ℕ → Bool} {kept : ℕ → Tri} {before : List Tri}
    (h : IsHonest devices is_source net s place up old new pins kept before) (lag : IsInStep net s place up old new pins before) (period : IsPeriod place)
    (i : ℕ) (open_there : up i ≢ AfterFall) (event : NextEvent devices is_source before) where
  in_evaluation : (x : ℕ) → x ≡ event.net → (IsCap place → value_of (after_next event) x ≡ value_of before x) → place ≡ Evaluation
  in_evaluation x m f =
      elim (period_place place period) [
        | inl e ↦ e
        | inr cap ↦ absurd (no_event event x m (f cap))
      ]

  goal_there : (pl : Place) (st : ClockState) → pl ≡ Evaluation → st ≢ AfterFall → dynamic_goal pl st ≡ Zero
  goal_there Evaluation BeforeRise e ne = refl
  goal_there Evaluation Raised e ne = refl
  goal_there Evaluation AfterFall e ne = absurd (ne refl)
  goal_there _ st e ne = absurd (cc)

  cell_open : (j : ℕ) → j ≡ i → up j ≢ AfterFall
  cell_open j z f = open_there (subst (λ j. up j ≡ AfterFall) z f)

  -- the goal of a gate that is the dynamic net of a cell of clock i
  gate_there : (g : Gate) (k : ℕ) → IsGate s g → g ≡ FromDynamic k → ((c : DominoCell) → IsCellAt s k c → c.clock ≡ i) → place ≡ Evaluation → gate_goal s place up old new pins g ≡ Zero
  gate_there (FromDynamic m) k a f clock ev =
      let same : m ≡ k = cc in
      rw a.1 (goal_there place (up (a.0).clock) ev (cell_open (a.0).clock (clock a.0 (subst (λ j. IsCellAt s j a.0) same a.1))))
  gate_there _ k a f clock ev = absurd (cc)

  -- an event gives a dynamic net Zero, and a domino output One
  pub domino_event : (part : Part) (spot : Spot) (goal : Tri) → IsDomino s i part spot goal → net (At part spot) ≡ event.net → event.value ≡ goal
  domino_event part spot goal (falls {k = k} {c = c} {a = a} e clock x) m =
      elim (clock-known deck h.frame k c e) [
        | inl off ↦ absurd (elim ((h.cells.sides k c e).spots_idle off a x) [
          | inl one ↦ event.pending.2 ((rw m at one) ∙ sym (spot_charged deck h event k c e off a x m))
          | inr late ↦ cell_open c.clock clock late
        ])
        | inr on ↦ elim (dec_previous up c.clock) [
          | inl early ↦ (
              let f = held_side deck h event k c e on early in
              let top : a ≡ Top = keeper_spot s.style c a f.0 x in
              absurd (no_event event (net (At (Dynamic k) Top)) (subst (λ b. net (At (Dynamic k) b) ≡ event.net) top m) f.2)
              )
          | inr free ↦ (spot_event deck h event k c e on free a x m).1
        ]
      ]
  domino_event part spot goal (rises_output {k = k} {c = c} e clock) m =
      output_event deck h event lag k c e m
      ∙ ap opposite (goal_there place (up c.clock) (in_evaluation (net (At (Output k) Top)) m (λ cap. output_stays deck h event cap k c e)) (cell_open c.clock clock))
  domino_event part spot goal (rises_next {j = j} {k = k} {b = b} e f clock) m =
      let ev : place ≡ Evaluation = in_evaluation (net (At (Next j) Top)) m (λ cap. next_stays deck h event cap j b e) in
      lag_event deck h.frame event lag (λ a. net (At (Next j) a)) (gate_tree s b.next) (gate_goal s place up old new pins b.next)
      (next_is deck j b e) (value-known net s before (gate-known deck h) b.next ((deck.shape).nexts j b e)) (lag.nexts j b e) m
      ∙ ap opposite (gate_there b.next k ((deck.shape).nexts j b e) f clock ev)
  domino_event part spot goal (rises_sink {j = j} {k = k} {g = g} e f clock) m =
      let ev : place ≡ Evaluation = in_evaluation (net (At (Sink j) Top)) m (λ cap. sink_stays deck h event cap j g e) in
      lag_event deck h.frame event lag (λ a. net (At (Sink j) a)) (gate_tree s g) (gate_goal s place up old new pins g)
      (sink_is deck j g e) (value-known net s before (gate-known deck h) g ((deck.shape).outputs_are j g e)) (lag.outputs j g e) m
      ∙ ap opposite (gate_there g k ((deck.shape).outputs_are j g e) f clock ev)

  -- before it was the other value
  domino-known : (part : Part) (spot : Spot) (goal : Tri) → IsDomino s i part spot goal → IsKnown (value_of before (net (At part spot))) × IsKnown goal
  domino-known part spot goal (falls {k = k} {c = c} {a = a} e z x) = ((h.cells.sides k c e).spots_known a x, inl refl)
  domino-known part spot goal (rises_output {k = k} {c = c} e z) = (output-known deck h k c e, inr refl)
  domino-known part spot goal (rises_next {j = j} {b = b} e f z) = (h.frame.nexts j b e, inr refl)
  domino-known part spot goal (rises_sink {j = j} {g = g} e f z) = (h.frame.outputs j g e, inr refl)

  pub domino_before : (part : Part) (spot : Spot) (goal : Tri) → IsDomino s i part spot goal → net (At part spot) ≡ event.net → value_of before event.net ≡ opposite goal
  domino_before part spot goal d m =
      let k = domino-known part spot goal d in
      other (value_of before event.net) goal (rw m at k.0) k.1 (λ z. event.pending.2 (z ∙ sym (domino_event part spot goal d m)))
    where
      other : (x y : Tri) → IsKnown x → IsKnown y → x ≢ y → x ≡ opposite y
      other x y (inl a) (inl b) ne = absurd (ne (a ∙ sym b))
      other x y (inl a) (inr b) ne = a ∙ sym (rw b refl)
      other x y (inr a) (inl b) ne = a ∙ sym (rw b refl)
      other x y (inr a) (inr b) ne = absurd (ne (a ∙ sym b))

module _ {links : LinksData} {net : Net → ℕ} {s : Shape} (loose : IsLooseDeck links net s) (i : ℕ) (part : Part) (spot : Spot) (goal : Tri) (d : IsDomino s i part spot goal) where
  domino-free : (part : Part) (spot : Spot) (goal : Tri) → IsDomino s i part spot goal → is_first links.sources (net (At part spot)) ≡ false
  domino-free part spot goal (falls {k = k} {c = c} {a = a} e z x) = spot-free loose.deck k c e a x
  domino-free part spot goal (rises_output {k = k} {c = c} e z) = part-free loose.deck (Output k) (c, e)
  domino-free part spot goal (rises_next {j = j} {b = b} e f z) = part-free loose.deck (Next j) (b, e)
  domino-free part spot goal (rises_sink {j = j} {g = g} e f z) = part-free loose.deck (Sink j) (g, e)

  -- in the period of clock i it has not fallen
  abbrev pub IsOpen : World → Type 0
  IsOpen w = IsPeriod w.place × (w.fallen i ≡ false)

  open_at : (pl : Place) (risen : ℕ) (fallen : ℕ → Bool) → IsPeriod pl → fallen i ≡ false → up_at pl risen fallen i ≢ AfterFall
  open_at Evaluation risen fallen p f z = let y : true ≡ false = sym (from_fallen risen fallen i z) ∙ f in cc
  open_at Capture risen fallen p f z = raised_fallen (rw f at z)
  open_at Captured risen fallen p f z = raised_fallen (rw f at z)
  open_at _ risen fallen p f z = absurd p

  -- a step of the period
  step_period : (step : Step) (w w' : World) → TakesStep links net s step w w' → IsInPeriodOf i step → IsOpen w → IsOpen w'
  step_period (Happens n) w w' r ne p = subst IsOpen (sym r.1) p
  step_period (Moves (Open place)) w w' r ne p =
      subst IsOpen (sym (r.1).1) (period_open w.place place p.0 ((r.0).0) (λ z. ne.0 (ap (λ x. Moves (Open x)) z)), stays w.place place p.0 ((r.0).0))
    where
      stays : (pl pl' : Place) → IsPeriod pl → IsNext pl pl' → fallen_at pl' w.fallen i ≡ false
      stays Evaluation Capture q f = p.1
      stays Evaluation _ q f = absurd f
      stays Capture Captured q f = p.1
      stays Capture _ q f = absurd f
      stays Captured Precharge q f = p.1
      stays Captured _ q f = absurd f
      stays _ _ q f = absurd q
  step_period (Moves (Take pins)) w w' r ne p = absurd (no w.place ((r.0).0) p.0)
    where
      no : (pl : Place) → (pl ≡ Released) ⊎ (pl ≡ Launched) → IsPeriod pl → ⊥
      no Evaluation f q = elim f [ inl z ↦ cc | inr z ↦ cc ]
      no Capture f q = elim f [ inl z ↦ cc | inr z ↦ cc ]
      no Captured f q = elim f [ inl z ↦ cc | inr z ↦ cc ]
      no _ f q = q
  step_period (Moves Rise) w w' r ne p = subst IsOpen (sym (r.1).1) p
  step_period (Moves (Fall k)) w w' r ne p =
      subst IsOpen (sym (r.1).1) (p.0, fallen_with-other k w.fallen i (λ z. ne.1 (ap (λ x. Moves (Fall x)) (sym z))) ∙ p.1)

  -- in the period the state is honest and in step
  state_there : (w : World) → IsTracked loose w → IsPeriod w.place → IsHonestWorld links net s w × InStepWorld loose w
  state_there w t p = elim t.state [ inl h ↦ h | inr h ↦ absurd (no w.place h.0 p) ]
    where
      no : (pl : Place) → pl ≡ Reset → IsPeriod pl → ⊥
      no Reset e q = q
      no _ e q = absurd (cc)

  -- an event of the net
  pub event_there : (w w' : World) → TakesStep links net s (Happens (net (At part spot))) w w' → IsTracked loose w → IsOpen w
      → (value_of w.values (net (At part spot)) ≡ opposite goal) × (value_of w'.values (net (At part spot)) ≡ goal)
  event_there w w' r t p =
      let h = state_there w t p.0 in
      let o = open_at w.place w.risen w.fallen p.0 p.1 in
      let e = r.2 in (
        domino_before loose.deck h.0 h.1 p.0 i o (next_event e) part spot goal d refl,
        subst (λ u. value_of u.values (net (At part spot)) ≡ goal) (sym r.1)
            (rw e.3 (get_or-set_same w.values (net (At part spot)) e.0 Unknown e.1)
            ∙ domino_event loose.deck h.0 h.1 p.0 i o (next_event e) part spot goal d refl),
      )

  -- another step leaves its value
  step_keeps : (step : Step) (w w' : World) → TakesStep links net s step w w' → step ≢ Happens (net (At part spot)) → value_of w'.values (net (At part spot)) ≡ value_of w.values (net (At part spot))
  step_keeps (Happens n) w w' r ne =
      subst (λ u. value_of u.values (net (At part spot)) ≡ value_of w.values (net (At part spot))) (sym r.1)
      (rw (r.2).3 (get_or-set_other w.values n (net (At part spot)) (r.2).0 Unknown (λ z. ne (ap (λ x. Happens x) (sym z)))))
  step_keeps (Moves move) w w' r ne =
      let m = r.1 in
      subst (λ u. value_of u.values (net (At part spot)) ≡ value_of w.values (net (At part spot))) (sym m.1)
      (((m.2).0).others (net (At part spot)) (domino-free part spot goal d))

  -- once it has its goal it has no more events in the period
  never_again : (steps : List Step) (w w' : World) → Run links net s steps w w' → IsTracked loose w → IsOpen w → AllByRecursion (IsInPeriodOf i) steps
      → value_of w.values (net (At part spot)) ≡ goal → IsNever (net (At part spot)) steps
  never_again [] w w' r t p q g = tt
  never_again (step ∷ steps) w w' r t p q g =
      (ne step r.1, never_again steps r.0 w' r.2 (step_tracked loose step w r.0 r.1 t) (step_period step w r.0 r.1 q.0 p) q.1 (step_keeps step w r.0 r.1 (ne step r.1) ∙ g))
    where
      ne : (step : Step) → TakesStep links net s step w r.0 → step ≢ Happens (net (At part spot))
      ne step x z = clash_goal s i part spot _ goal d (event_there w r.0 (subst (λ y. TakesStep links net s y w r.0) z x) t p).0 g

  pub at_most_once : (steps : List Step) (w w' : World) → Run links net s steps w w' → IsTracked loose w → IsOpen w → AllByRecursion (IsInPeriodOf i) steps
      → IsAtMostOnce (net (At part spot)) steps
  at_most_once [] w w' r t p q = tt
  at_most_once (step ∷ steps) w w' r t p q =
      let t' = step_tracked loose step w r.0 r.1 t in
      let p' = step_period step w r.0 r.1 q.0 p in (
        (λ z. never_again steps r.0 w' r.2 t' p' q.1 (event_there w r.0 (subst (λ y. TakesStep links net s y w r.0) z r.1) t p).1),
        at_most_once steps r.0 w' r.2 t' p' q.1,
      )

  -- and it had none before one
  pub never_before : (steps : List Step) (w w' u' : World) → Run links net s steps w w' → IsTracked loose w → IsOpen w → AllByRecursion (IsInPeriodOf i) steps
      → TakesStep links net s (Happens (net (At part spot))) w' u' → IsNever (net (At part spot)) steps
  never_before [] w w' u' r t p q x = tt
  never_before (step ∷ steps) w w' u' r t p q x =
      let t' = step_tracked loose step w r.0 r.1 t in
      let p' = step_period step w r.0 r.1 q.0 p in
      ((λ z. last_there steps r.0 r.2 t' p' q.1 (event_there w r.0 (subst (λ y. TakesStep links net s y w r.0) z r.1) t p).1), never_before steps r.0 w' u' r.2 t' p' q.1 x)
    where
      -- at its goal it stays there, so it could have no event at the end
      last_there : (steps : List Step) (w : World) → Run links net s steps w w' → IsTracked loose w → IsOpen w → AllByRecursion (IsInPeriodOf i) steps
          → value_of w.values (net (At part spot)) ≡ goal → ⊥
      last_there [] w r t p q g =
          clash_goal s i part spot _ goal d (event_there w u' (subst (λ y. TakesStep links net s (Happens (net (At part spot))) y u') r x) t p).0 g
      last_there (step ∷ steps) w r t p q g =
          let n = never_again (step ∷ steps) w w' r t p q g in
          last_there steps r.0 r.2 (step_tracked loose step w r.0 r.1 t) (step_period step w r.0 r.1 q.0 p) q.1 (step_keeps step w r.0 r.1 n.0 ∙ g)

-- the law for a part
pub part_once : (links : LinksData) (net : Net → ℕ) (s : Shape) (i : ℕ) (steps : List Step) (u : World) → IsLooseDeck links net s → InPeriod links net s i steps u
    → (part : Part) (spot : Spot) (goal : Tri) → IsDomino s i part spot goal → IsOnceIn links steps u (net (At part spot)) (opposite goal) goal
part_once links net s i steps u loose period part spot goal d =
    record {
      once = at_most_once loose i part spot goal d steps k.2.0 u k.2.2 t p period.period;
      event = λ u' x. let e = event_there loose i part spot goal d u u' x tu pu in
          (e.0, e.1, never_before loose i part spot goal d steps k.2.0 u u' k.2.2 t p period.period x);
    }
  where
    k : (mid : World) × Run links net s period.earlier (period.run).0 mid × Run links net s (Moves (Open Evaluation) ∷ steps) mid u
    k = leads_cut (clocked_deck links s) (GivesSources links net s) period.earlier (Moves (Open Evaluation) ∷ steps) (period.run).0 u (period.run).2

    t : IsTracked loose k.2.0
    t = step_tracked loose (Moves (Open Evaluation)) k.0 k.2.0 k.2.1 (run_tracked loose period.earlier (period.run).0 k.0 k.1 (power_tracked loose (period.run).0 (period.run).1))

    p : IsOpen loose i part spot goal d k.2.0
    p = subst (IsOpen loose i part spot goal d) (sym ((k.2.1).1).1) (tt, refl)

    tu : IsTracked loose u
    tu = run_tracked loose steps k.2.0 u k.2.2 t

    pu : IsOpen loose i part spot goal d u
    pu = run_period steps k.2.0 k.2.2 p period.period
      where
        run_period : (steps : List Step) (w : World) → Run links net s steps w u → IsOpen loose i part spot goal d w → AllByRecursion (IsInPeriodOf i) steps
            → IsOpen loose i part spot goal d u
        run_period [] w r p q = subst (IsOpen loose i part spot goal d) (sym r) p
        run_period (step ∷ steps) w r p q = run_period steps r.0 r.2 (step_period loose i part spot goal d step w r.0 r.1 q.0 p) q.1
