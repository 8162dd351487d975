-- A circuit on one clock that is right where all clocks fall together is right where they overlap: no clock can fall before another.
use Rattle.std.proofs.Common.{◌≡◌, ℕ, Bool, List, [], ◌∷◌, ◌++◌, map, refl, subst, arith}
use Rattle.std.specs.List.{AllByRecursion}
use Rattle.dom_base.proofs.Lists.{AllByRecursion-weaker}
use Rattle.deck.specs.CircuitData.{CircuitData}
use Rattle.deck.specs.declared.role.Roles.{Roles}
use Rattle.network.specs.NetworkData.{NetworkData}
use Rattle.port_runs.specs.Environment.{Evaluation, Fall, Happens, Moves, Open, Rise, Step, Take, World, stream_of}
use Rattle.port_runs.specs.Order.{StandsAfter}
use Rattle.port_runs.specs.Periods.{IsInPeriod, IsInPeriodOf}
use Rattle.port_runs.specs.PortRuns.{DoesBy, LeadsBy, RunsBy, SetsPorts, clocked_ports, power_world}
use Rattle.port_runs.specs.Readings.{HasResetBy, IsLaunchedBy, IsReadBy}
use Rattle.port_runs.specs.declared.clocking.Clocking.{Clocking}
use Rattle.port_runs.specs.declared.clocking.Clocking.TheVariants.{Overlapping, Together}
use Rattle.port_runs.proofs.RunOrder.{runs_stand_in_order}
use Rattle.port_runs.proofs.Steps.{leads_as, leads_widen}
use Rattle.domino_law.specs.EveryRun.{ClocksAlike, IsEvaluating, ReachesRest, RunsAsDomino}
use Rattle.deck_law.specs.Headline.{IsRightInEveryRun, roles_of}
use Rattle.verdict_law.specs.Laws.{IsRightTogether, IsRightWhere, OneClockIsRight}

module _ (c : CircuitData) (roles : Roles) (one : roles.clocks ≡ 1) where
  -- the legal runs on one clock are the same in both clockings
  does : (step : Step) (w w' : World) → DoesBy Overlapping c roles step w w' → DoesBy Together c roles step w w'
  does (Happens n) w w' h = h
  does (Moves (Open place)) w w' h = h
  does (Moves (Take pins)) w w' h = h
  does (Moves Rise) w w' h = h
  does (Moves (Fall i)) w w' h = absurd (omega (arith, one, h.0.5))

  leads : (steps : List Step) (w w' : World) → LeadsBy Overlapping c roles steps w w' → LeadsBy Together c roles steps w w'
  leads steps w w' h =
      (leads_as (clocked_ports Overlapping c roles) (SetsPorts roles) (clocked_ports Together c roles) (SetsPorts roles) (λ u. Unit {0})
      (λ step u v d kept. (does step u v d, tt)) steps w w' h tt).0

  runs : (steps : List Step) (w : World) → RunsBy Overlapping c roles steps w → RunsBy Together c roles steps w
  runs steps w h = leads steps (power_world c roles) w h

  runs_back : (steps : List Step) (w : World) → RunsBy Together c roles steps w → RunsBy Overlapping c roles steps w
  runs_back steps w h = leads_widen Overlapping c roles steps (power_world c roles) w h

  within : (i : ℕ) (steps : List Step) → AllByRecursion (IsInPeriodOf i) steps → AllByRecursion IsInPeriod steps
  within i steps h = AllByRecursion-weaker (IsInPeriodOf i) IsInPeriod (λ step p. p.0) steps h

  evaluating : (port : ℕ) (steps : List Step) (w : World) → IsEvaluating Overlapping c roles port steps w → IsEvaluating Together c roles port steps w
  evaluating port steps w h =
      let is = h.2 in
      record { earlier = is.earlier; run = runs (is.earlier ++ Moves (Open Evaluation) ∷ steps) w is.run; period = within h.0 steps is.period }

  has_reset : (w : World) → HasResetBy Overlapping c roles w → HasResetBy Together c roles w
  has_reset w h = record { steps = h.steps; run = runs h.steps w h.run; beyond = h.beyond }

  -- in evaluation the one clock has risen
  risen_one : (steps : List Step) (w : World) → RunsBy Overlapping c roles steps w → w.place ≡ Evaluation → w.risen ≡ 1
  risen_one steps w run at =
      let stands : StandsAfter roles.clocks (stream_of steps) Evaluation w.risen w.past w.pins =
      subst (λ place. StandsAfter roles.clocks (stream_of steps) place w.risen w.past w.pins) at (runs_stand_in_order Overlapping c roles steps w run).stands in
      omega (arith, one, stands.1, stands.2 (omega (arith, one)))

  clocks_alike : (steps steps' : List Step) (w w' : World) → RunsBy Overlapping c roles steps w → RunsBy Overlapping c roles steps' w' → w.place ≡ w'.place
      → ClocksAlike Together roles w w'
  clocks_alike steps steps' w w' run run' same at =
      omega (arith, risen_one steps w run at, risen_one steps' w' run' (subst (λ place. place ≡ Evaluation) same at))

  reaches : (w : World) → ReachesRest Together c roles w → ReachesRest Overlapping c roles w
  reaches w h = record {
    events = h.events;
    end = h.end;
    leads = leads_widen Overlapping c roles (map (λ n. Happens n) h.events) w h.end h.leads;
    rests = h.rests;
    few = h.few;
  }

  read : (stream : List (List Bool)) (steps : List Step) (w : World) → IsReadBy Together c roles stream steps w → IsReadBy Overlapping c roles stream steps w
  read stream steps w h = record { run = runs_back steps w h.run; stream_is = h.stream_is; reading = h.reading }

  launched : (stream : List (List Bool)) (steps : List Step) (w : World) → IsLaunchedBy Together c roles stream steps w
      → IsLaunchedBy Overlapping c roles stream steps w
  launched stream steps w h = record { run = runs_back steps w h.run; stream_is = h.stream_is; place = h.place; rests = h.rests }

  domino : RunsAsDomino Together c roles → RunsAsDomino Overlapping c roles
  domino h = record {
    falls_once = λ steps w n d is. h.falls_once steps w n d (evaluating (d.precharge).gate steps w is);
    rises_once = λ steps w n d is. h.rises_once steps w n d (evaluating ((d.gated).precharge).gate steps w is);
    no_short = λ w a b reset. h.no_short w a b (has_reset w reset);
    no_contest = λ w p reset. h.no_contest w p (has_reset w reset);
    few_events = λ steps events w w' run more.
        h.few_events steps events w w' (runs steps w run) (leads (map (λ n. Happens n) events) w w' more);
    reaches_rest = λ steps w run. reaches w (h.reaches_rest steps w (runs steps w run));
    rests_alike = λ steps steps' w w' n run run' stream place clocks.
        h.rests_alike steps steps' w w' n (runs steps w run) (runs steps' w' run') stream place (clocks_alike steps steps' w w' run run' place);
    is_read = λ past pins bits.
        let z = h.is_read past pins bits in (
          (z.0.0, z.0.1, read (past ++ pins ∷ []) z.0.0 z.0.1 z.0.2),
          (z.1.0, z.1.1, launched (past ++ pins ∷ []) z.1.0 z.1.1 z.1.2),
        );
  }

  right_in_every_run : (network : NetworkData) → IsRightInEveryRun Together network c roles → IsRightInEveryRun Overlapping network c roles
  right_in_every_run network h = record {
    domino = domino h.domino;
    overpowered = λ w p reset. h.overpowered w p (has_reset w reset);
    reads = λ steps w run. h.reads steps w (runs steps w run);
    launches = λ steps w run. h.launches steps w (runs steps w run);
  }

pub one_clock_is_right : OneClockIsRight
one_clock_is_right Together blif deck right = right
one_clock_is_right Overlapping blif deck right = record {
  network = right.network;
  has = right.has;
  circuit = right.circuit;
  reads_back = right.reads_back;
  no_other = right.no_other;
  some_clock = right.some_clock;
  few_clocks = right.few_clocks;
  ports = right.ports;
  right = right_in_every_run right.circuit (roles_of right.network 1) refl right.network right.right;
}
