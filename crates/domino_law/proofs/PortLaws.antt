-- What the laws of loose decks say of legal runs by ports.
use Rattle.std.specs.Prelude.{◌⊎◌, ◌≢◌}
use Rattle.std.proofs.Common.{Bool, List, [], arith, inl, inr, length, map, subst, sym, ℕ, ◌++◌, ◌+◌, ◌-◌, ◌<◌, ◌≤◌, ◌∙◌, ◌∷◌, ◌≡◌, ap, false, refl}
use Rattle.std.specs.List.{AllByRecursion}
use Rattle.dom_base.proofs.Lists.{AllByRecursion-both, AllByRecursion-right}
use Rattle.deck.specs.CircuitData.{CircuitData}
use Rattle.deck.specs.PortLayout.{first_output, source_count}
use Rattle.deck.specs.Switches.{value_of}
use Rattle.deck.specs.declared.device.Device.{Device}
use Rattle.deck.specs.declared.role.Roles.{Roles}
use Rattle.domino_cell.specs.Stage.{Top}
use Rattle.switch_model.specs.LinksData.{is_first, links_of}
use Rattle.event_sim.specs.Settling.{most_events}
use Rattle.circuit_law.specs.Counts.{Gates}
use Rattle.port_runs.specs.Environment.{Capture, Captured, Evaluation, Fall, Happens, Moves, Open, Place, Step, World, stream_of}
use Rattle.port_runs.specs.declared.clocking.Clocking.{Clocking}
use Rattle.port_runs.specs.declared.clocking.Clocking.TheVariants.{Overlapping, Together}
use Rattle.port_runs.specs.Periods.{IsClockPort, IsDominoOutput, IsDynamicNet, IsInPeriod, vdd_port, vss_port}
use Rattle.port_runs.specs.PortRuns.{LeadsBy, Rests, Runs, RunsBy, power_world}
use Rattle.port_runs.specs.Readings.{HasResetBy, IsLaunchedBy, IsReadBy}
use Rattle.port_runs.proofs.DynamicNets.{dynamic_as, output_as}
use Rattle.port_runs.proofs.Steps.{leads_no_falls, leads_none, leads_widen}
use Rattle.domino_law.specs.DominoDeck.{AreRunsOf, DecksRunAsDomino, IsLooseDominoDeck}
use Rattle.domino_law.specs.EveryRun.{ClocksAlike, IsEvaluating, IsOutputPort, ReachesRest, RunsAsDomino}
use Rattle.domino_law.specs.Joins.{IsContest, IsOverpowered}
use Rattle.domino_law.specs.LooseDeck.{IsLooseDeck}
use Rattle.domino_law.specs.Nets.{At, Clock, Gate, Net, Sink, Vdd, Vss}
use Rattle.domino_law.specs.OrderLaws.{InPeriod}
use Rattle.domino_law.specs.Periods.{IsDeckClock, IsDeckDominoOutput, IsDeckDynamicNet}
use Rattle.domino_law.specs.Places.{up_at}
use Rattle.domino_law.specs.Runs.{IsPower, Run}
use Rattle.domino_law.specs.Shape.{IsOutputAt, Shape}
use Rattle.domino_law.proofs.AlikeLaws.{rests_alike, rests_alike_by_clocks}
use Rattle.domino_law.proofs.DominoDecks.{domino_deck_is_loose, port_is_output}
use Rattle.domino_law.proofs.OrderLaws.{contests_overpowered, dynamic_falls_once, events_are_few, no_contest_at_rest, no_short, output_rises_once}
use Rattle.domino_law.proofs.PortRunLaws.{is_run, power, power_set, run_is}
use Rattle.domino_law.proofs.ReadRuns.{events_lead, reads_each_stream}
use Rattle.domino_law.proofs.RunOrder.{rest_is_reached}

module _ (c : CircuitData) (roles : Roles) (net : Net → ℕ) (s : Shape) (deck : IsLooseDominoDeck roles (links_of c roles) net s) where
  pub loose : IsLooseDeck (links_of c roles) net s
  loose = domino_deck_is_loose roles (links_of c roles) net s deck

  pub start : IsPower (links_of c roles) net s (power_world c roles)
  start = power c roles net s deck.ports

  vdd_is : net Vdd ≡ vdd_port
  vdd_is = (deck.ports).numbers Vdd tt

  vss_is : net Vss ≡ vss_port
  vss_is = (deck.ports).numbers Vss tt

  clock_is : (g : ℕ) → IsClockPort roles g → IsDeckClock net s g
  clock_is g i = (g - 2, here, same ∙ sym ((deck.ports).numbers (Clock (g - 2)) here))
    where
      here : g - 2 < s.clocks
      here = omega (arith, i.0, i.1, (deck.ports).clocks_are)

      same : g ≡ 2 + (g - 2)
      same = omega (arith, i.0)

  dynamic_is : (n : ℕ) → IsDynamicNet c roles n → IsDeckDynamicNet (links_of c roles) net s n
  dynamic_is = dynamic_as c.devices (IsClockPort roles) (IsDeckClock net s) vdd_port (net Vdd) clock_is (sym vdd_is)

  output_is : (n : ℕ) → IsDominoOutput c roles n → IsDeckDominoOutput (links_of c roles) net s n
  output_is = output_as c.devices (IsClockPort roles) (IsDeckClock net s) vdd_port (net Vdd) clock_is (sym vdd_is)

  -- an evaluation period of a dynamic net is one of the deck's, where such runs are the deck's
  in_period : (clocking : Clocking)
      → ((steps : List Step) (w : World) → RunsBy clocking c roles steps w → Run (links_of c roles) net s steps (power_world c roles) w)
      → (port : ℕ) (steps : List Step) (w : World) → IsEvaluating clocking c roles port steps w
      → InPeriod (links_of c roles) net s (port - 2) steps w
  in_period Together run_of port steps w h = record {
    earlier = h.earlier;
    run = (power_world c roles, start, run_of (h.earlier ++ Moves (Open Evaluation) ∷ steps) w h.run);
    period = AllByRecursion-both IsInPeriod (λ step. step ≢ Moves (Fall (port - 2))) steps h.period
        (AllByRecursion-right (λ step. step ≢ Moves (Fall (port - 2))) h.earlier (Moves (Open Evaluation) ∷ steps)
        (leads_no_falls c roles (h.earlier ++ Moves (Open Evaluation) ∷ steps) (power_world c roles) w h.run (port - 2))).1;
  }
  in_period Overlapping run_of port steps w h =
      subst (λ i. InPeriod (links_of c roles) net s i steps w) (clock_number h.0 port h.1)
      (record {
        earlier = (h.2).earlier;
        run = (power_world c roles, start, run_of ((h.2).earlier ++ Moves (Open Evaluation) ∷ steps) w (h.2).run);
        period = (h.2).period;
      })
    where
      clock_number : (i : ℕ) (g : ℕ) → g ≡ 2 + i → i ≡ g - 2
      clock_number i g e = omega arith

  pub contest_is : (w : World) (p : List Device) → IsContest c.devices (is_first (source_count roles)) w.values vdd_port vss_port p
      → IsContest c.devices (is_first (source_count roles)) w.values (net Vdd) (net Vss) p
  contest_is w p h =
      subst (λ m. IsContest c.devices (is_first (source_count roles)) w.values m (net Vss) p) (sym vdd_is)
      (subst (λ m. IsContest c.devices (is_first (source_count roles)) w.values vdd_port m p) (sym vss_is) h)

  -- an output port is the net of an output
  output_net : (n : ℕ) → IsOutputPort roles n → (i : ℕ) × (g : Gate) × IsOutputAt s i g × (n ≡ net (At (Sink i) Top))
  output_net n h =
      let at = port_is_output roles c net s deck (n - first_output roles) (low n (first_output roles) roles.outs h.0 h.1) in
      (n - first_output roles, at.0, at.1, same n (first_output roles) h.0 ∙ sym at.2)
    where
      low : (n a b : ℕ) → a ≤ n → n < a + b → n - a < b
      low n a b le lt = omega arith

      same : (n a : ℕ) → a ≤ n → n ≡ a + (n - a)
      same n a le = omega arith

  -- as many clocks have risen and none has fallen early, or the same are 1
  alike_by : (clocking : Clocking) (steps steps' : List Step) (w w' : World) (n : ℕ)
      → RunsBy clocking c roles steps w → RunsBy clocking c roles steps' w'
      → Run (links_of c roles) net s steps (power_world c roles) w → Run (links_of c roles) net s steps' (power_world c roles) w'
      → stream_of steps ≡ stream_of steps' → w.place ≡ w'.place → ClocksAlike clocking roles w w'
      → Rests c roles w → Rests c roles w' → Gates c.devices n ⊎ IsOutputPort roles n → value_of w.values n ≡ value_of w'.values n
  alike_by Together steps steps' w w' n r r' run run' stream place clocks rest rest' k =
      rests_alike (links_of c roles) net s steps steps' (power_world c roles) (power_world c roles) w w' loose start start run run'
      stream place stand rest rest' n (elim k [ inl x ↦ inl x | inr x ↦ inr (output_net n x) ])
    where
      none : (steps : List Step) (w : World) → Runs c roles steps w → (i : ℕ) → w.fallen i ≡ false
      none steps w r = leads_none c roles steps (power_world c roles) w r (λ i. refl)

      by : (pl : Place) → w.place ≡ pl → (i : ℕ) → up_at pl w.risen w.fallen i ≡ up_at pl w'.risen w'.fallen i
      by Evaluation z i = rw (none steps w r i, none steps' w' r' i, clocks z) refl
      by Capture z i = rw (none steps w r i, none steps' w' r' i) refl
      by Captured z i = rw (none steps w r i, none steps' w' r' i) refl
      by _ z i = refl

      stand : (i : ℕ) → up_at w.place w.risen w.fallen i ≡ up_at w'.place w'.risen w'.fallen i
      stand i = by w.place refl i ∙ ap (λ pl. up_at pl w'.risen w'.fallen i) place
  alike_by Overlapping steps steps' w w' n r r' run run' stream place clocks rest rest' k =
      rests_alike_by_clocks (links_of c roles) net s steps steps' (power_world c roles) (power_world c roles) w w' loose some start start
      run run' stream place same rest rest' n (elim k [ inl x ↦ inl x | inr x ↦ inr (output_net n x) ])
    where
      some : 1 ≤ s.clocks
      some = omega (arith, (deck.ports).some_clock, (deck.ports).clocks_are)

      same : (i : ℕ) → i < s.clocks → value_of w.values (net (Clock i)) ≡ value_of w'.values (net (Clock i))
      same i l = rw ((deck.ports).numbers (Clock i) l) (clocks i (omega (arith, l, (deck.ports).clocks_are)))

module _ (c : CircuitData) (roles : Roles) (net : Net → ℕ) (s : Shape) (deck : IsLooseDominoDeck roles (links_of c roles) net s)
    (clocking : Clocking) (are : AreRunsOf s clocking) where
  pub leads_own : (steps : List Step) (w w' : World) → LeadsBy clocking c roles steps w w' → LeadsBy s.clocking c roles steps w w'
  leads_own steps w w' r = elim are [
    | inl e ↦ leads_widen s.clocking c roles steps w w' (subst (λ k. LeadsBy k c roles steps w w') e r)
    | inr e ↦ subst (λ k. LeadsBy k c roles steps w w') e r
  ]

  pub run_of : (steps : List Step) (w : World) → RunsBy clocking c roles steps w → Run (links_of c roles) net s steps (power_world c roles) w
  run_of steps w r = is_run c roles net s deck.ports steps w (leads_own steps (power_world c roles) w r)

  pub overpowered : (w : World) (p : List Device) → HasResetBy clocking c roles w
      → IsContest c.devices (is_first (source_count roles)) w.values vdd_port vss_port p
      → IsOverpowered c.devices (is_first (source_count roles)) w.values vss_port p
  overpowered w p h k =
      subst (λ m. IsOverpowered c.devices (is_first (source_count roles)) w.values m p) (vss_is c roles net s deck)
      (contests_overpowered (links_of c roles) net s h.steps (power_world c roles) w (loose c roles net s deck) (start c roles net s deck)
      (run_of h.steps w h.run) h.beyond p (contest_is c roles net s deck w p k))

  few_events : (steps : List Step) (events : List ℕ) (w w' : World) → RunsBy clocking c roles steps w
      → LeadsBy clocking c roles (map (λ n. Happens n) events) w w' → length events ≤ most_events (links_of c roles)
  few_events steps events w w' r more =
      let stands = loose c roles net s deck in
      let first = run_is c roles net s deck.ports steps (power_world c roles) w (leads_own steps (power_world c roles) w r)
      (power_set c roles net s deck.ports) in
      events_are_few (links_of c roles) net s steps events (power_world c roles) w w' stands (start c roles net s deck) first.0
      (run_is c roles net s deck.ports (map (λ n. Happens n) events) w w' (leads_own (map (λ n. Happens n) events) w w' more) first.1).0

  reaches_rest : (steps : List Step) (w : World) → RunsBy clocking c roles steps w → ReachesRest clocking c roles w
  reaches_rest steps w r =
      let (events, end, more, rests, few) = rest_is_reached (links_of c roles) net s steps (power_world c roles) w (loose c roles net s deck)
      (start c roles net s deck) (run_of steps w r) in
      record {
        events = events;
        end = end;
        leads = leads_widen clocking c roles (map (λ n. Happens n) events) w end (events_lead c roles net s events w end more);
        rests = rests;
        few = few;
      }

  is_read : (past : List (List Bool)) (pins : List Bool) → AllByRecursion (λ bits. length bits ≡ roles.pins) (past ++ pins ∷ [])
      → ((steps : List Step) × (w : World) × IsReadBy clocking c roles (past ++ pins ∷ []) steps w)
      × ((steps : List Step) × (w : World) × IsLaunchedBy clocking c roles (past ++ pins ∷ []) steps w)
  is_read past pins h =
      let all = reads_each_stream c roles net s (loose c roles net s deck) deck.ports past pins h in
      let read = (all.0).2 in
      let launched = (all.1).2 in (
        (
          (all.0).0,
          (all.0).1,
          record {
            run = leads_widen clocking c roles (all.0).0 (power_world c roles) (all.0).1 read.run;
            stream_is = read.stream_is;
            reading = read.reading;
          },
        ),
        (
          (all.1).0,
          (all.1).1,
          record {
            run = leads_widen clocking c roles (all.1).0 (power_world c roles) (all.1).1 launched.run;
            stream_is = launched.stream_is;
            place = launched.place;
            rests = launched.rests;
          },
        ),
      )

  pub runs_as_domino : RunsAsDomino clocking c roles
  unfolding clock_is dynamic_is output_is
  runs_as_domino =
      let stands = loose c roles net s deck in
      record {
        falls_once = λ steps w n d h.
            dynamic_falls_once (links_of c roles) net s steps w n stands (dynamic_is c roles net s deck n d)
            (in_period c roles net s deck clocking run_of (d.precharge).gate steps w h);
        rises_once = λ steps w n d h.
            output_rises_once (links_of c roles) net s steps w n stands (output_is c roles net s deck n d)
            (in_period c roles net s deck clocking run_of ((d.gated).precharge).gate steps w h);
        no_short = λ w a b h.
            no_short (links_of c roles) net s h.steps (power_world c roles) w stands (start c roles net s deck) (run_of h.steps w h.run) h.beyond a b;
        no_contest = λ w p h rest k.
            no_contest_at_rest (links_of c roles) net s h.steps (power_world c roles) w stands (start c roles net s deck)
            (run_of h.steps w h.run) h.beyond rest p (contest_is c roles net s deck w p k);
        few_events = few_events;
        reaches_rest = reaches_rest;
        rests_alike = λ steps steps' w w' n r r' stream place clocks rest rest' k.
            alike_by c roles net s deck clocking steps steps' w w' n r r' (run_of steps w r) (run_of steps' w' r')
            stream place clocks rest rest' k;
        is_read = is_read;
      }

pub decks_run_as_domino : DecksRunAsDomino
decks_run_as_domino clocking c roles net s deck are = runs_as_domino c roles net s deck clocking are
