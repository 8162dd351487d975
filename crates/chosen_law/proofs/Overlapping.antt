-- The chosen run of a deck whose clocks overlap is legal, and reads the own run.
use Rattle.std.specs.List.{AllByRecursion}
use Rattle.std.proofs.Common.{Bool, List, [], ap, arith, length, refl, subst, ℕ, ◌+◌, ◌-◌, ◌∙◌, ◌≡◌}
use Rattle.deck.specs.declared.role.Roles.{Roles}
use Rattle.switch_model.specs.LinksData.{LinksData, links_of}
use Rattle.switch_model.specs.Power.{power_values}
use Rattle.port_runs.specs.Environment.{Evaluation, Move, Open, Step, Take, World, after_move, is_over}
use Rattle.port_runs.specs.declared.clocking.Clocking.TheVariants.{Overlapping}
use Rattle.port_runs.specs.PortRuns.{power_world}
use Rattle.deck.specs.CircuitData.{CircuitData}
use Rattle.domino_law.specs.Nets.{Net}
use Rattle.domino_law.specs.Runs.{Run, clocked_deck}
use Rattle.domino_law.specs.Settings.{HasPorts}
use Rattle.domino_law.specs.Shape.{Shape}
use Rattle.domino_law.proofs.OwnRunLaws.{realises_own_run}
use Rattle.domino_law.proofs.PowerStates.{power_is_power}
use Rattle.event_sim.specs.Orders.{By}
use Rattle.event_sim.specs.declared.event.Event.{Event}
use Rattle.trace_tool.specs.Courses.{LeadsTo, State}
use Rattle.trace_tool.specs.Moves.{overlapping_moves, power_moves}
use Rattle.trace_tool.proofs.CycleMoves.{falls_end, overlapping_allowed as allowed_by, overlapping_is, overlapping_reading}
use Rattle.trace_tool.proofs.PortWalks.{AreAllowed, after_moves, at_values}
use Rattle.chosen_law.specs.Chosen.{IsReadyForPins, IsSettled, Passes, at_reading}
use Rattle.chosen_law.specs.Overlapping.{OverlappingEvaluationIsLegal, OverlappingReadsOwnRun}
use Rattle.chosen_law.proofs.Chosen.{walked}
use Rattle.chosen_law.proofs.OwnReadings.{Came, came_on, evaluated_run, powered_to}

module _ (roles : Roles) (links : LinksData) (net : Net → ℕ) (s : Shape) (ports : HasPorts roles links net s)
    (overlap : s.clocking ≡ Overlapping) where
  pub overlapping_allowed : (pins : List Bool) (w : World) → IsReadyForPins links net s w → length pins ≡ s.pins
      → AreAllowed (clocked_deck links s) (overlapping_reading pins (roles.clocks - 1)) w
  overlapping_allowed pins w ready long =
      allowed_by (clocked_deck links s) overlap pins (roles.clocks - 1) w (omega (arith, ports.some_clock, ports.clocks_are)) ready.place long

pub overlapping_evaluation_is_legal : OverlappingEvaluationIsLegal
overlapping_evaluation_is_legal place roles links net s pins events w step read overlap ports ready long l =
    let moves : List Move = overlapping_reading pins (roles.clocks - 1) in
    let fallen : (ℕ → Bool) = (after_moves moves w).fallen in
    let count : 1 + (roles.clocks - 1) ≡ s.clocks = omega (arith, ports.some_clock, ports.clocks_are) in
    let r = walked roles links net s ports (By place) moves w step _ events read
    (overlapping_allowed roles links net s ports overlap pins w ready long)
    (overlapping_is roles pins w) ready.settled l in
    let end : at_values (after_moves moves w) read.values ≡ at_reading s fallen (is_over w.place w.past w.pins) pins read =
    ap (λ u. at_values u read.values) (falls_end 0 (roles.clocks - 1) (after_move (Open Evaluation) (after_move (Take pins) w)))
    ∙ ap (λ n. record { place = Evaluation; risen = n; fallen = fallen; past = is_over w.place w.past w.pins; pins = pins; values = read.values }) count in
    (fallen, r.0, subst (Run links net s r.0 w) end r.1, subst (IsSettled links net s) end r.2)

module _ (place : ℕ → ℕ → ℕ) (c : CircuitData) (roles : Roles) (net : Net → ℕ) (s : Shape) (ports : HasPorts roles (links_of c roles) net s)
    (overlap : s.clocking ≡ Overlapping) where
  legal : (pins : List Bool) (events : List Event) (w : World) (step : ℕ) (read : State) → IsReadyForPins (links_of c roles) net s w
      → length pins ≡ s.pins
      → LeadsTo (By place) (links_of c roles) (record { values = w.values; step = step }) (overlapping_moves roles pins) events read
      → (fallen : ℕ → Bool) × Unit {0} × (steps : List Step) × Run (links_of c roles) net s steps w
      (at_reading s fallen (is_over w.place w.past w.pins) pins read)
      × IsSettled (links_of c roles) net s (at_reading s fallen (is_over w.place w.past w.pins) pins read)
  legal pins events w step read ready long l =
      let e = overlapping_evaluation_is_legal place roles (links_of c roles) net s pins events w step read overlap ports ready long l in
      (e.0, tt, e.1, e.2, e.3)

  -- where power and whole cycles come to
  pub overlapping_came : (cycles : List (List Bool)) (powered : List Event) (start last : State)
      → AllByRecursion (λ p. length p ≡ s.pins) cycles
      → LeadsTo (By place) (links_of c roles) (record { values = power_values c roles; step = 0 }) (power_moves roles) powered start
      → Passes (By place) (links_of c roles) roles (overlapping_moves roles) start cycles last
      → Came place roles (links_of c roles) net s ports (power_world c roles) cycles last
  overlapping_came cycles powered start last all power passes =
      came_on place roles (links_of c roles) net s ports (overlapping_moves roles) (λ f. Unit {0}) legal
      (power_world c roles) [] cycles start last
      (powered_to place c roles net s ports powered start power) all passes

  pub overlapping_run : (cycles : List (List Bool)) (pins : List Bool) (events : List Event) (last read : State)
      → Came place roles (links_of c roles) net s ports (power_world c roles) cycles last → length pins ≡ s.pins
      → LeadsTo (By place) (links_of c roles) last (overlapping_moves roles pins) events read
      → (fallen : ℕ → Bool) × Unit {0} × (steps : List Step) × Run (links_of c roles) net s steps (power_world c roles)
      (at_reading s fallen cycles pins read)
      × IsSettled (links_of c roles) net s (at_reading s fallen cycles pins read)
  overlapping_run cycles pins events last read came long l =
      evaluated_run place roles (links_of c roles) net s ports (overlapping_moves roles) (λ f. Unit {0}) legal
      (power_world c roles) cycles last came pins events read long l

pub overlapping_reads_own_run : OverlappingReadsOwnRun
overlapping_reads_own_run place c roles net s cycles pins powered evaluated start last read overlap loose ports all long power passes l =
    let came = overlapping_came place c roles net s ports overlap cycles powered start last all power passes in
    let e = overlapping_run place c roles net s ports overlap cycles pins evaluated last read came long l in
    let r = realises_own_run (links_of c roles) net s e.2 (power_world c roles) _ loose (power_is_power c roles net s ports) e.3 in
    (e.0, r.reading (record { place = refl; risen = refl; rests = (e.4).rests }))
