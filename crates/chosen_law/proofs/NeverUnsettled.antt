-- No settling of the chosen run of a loose domino deck ends unsettled.
use Rattle.std.proofs.Common.{Bool, List, [], ap, arith, length, refl, subst, suc, sym, ℕ, ◌++◌, ◌+◌, ◌-◌, ◌∙◌, ◌∷◌, ◌≡◌}
use Rattle.deck.specs.declared.role.Roles.{Roles}
use Rattle.switch_model.specs.LinksData.{LinksData, links_of}
use Rattle.switch_model.specs.Power.{power_values}
use Rattle.port_runs.specs.Environment.{Evaluation, Move, Open, Released, Step, Take, World, after_move}
use Rattle.port_runs.specs.LegalSteps.{ClockedLinks}
use Rattle.port_runs.specs.Moves.{PortValue}
use Rattle.port_runs.specs.PortRuns.{power_world}
use Rattle.domino_law.specs.LooseDeck.{IsLooseDeck}
use Rattle.domino_law.specs.Nets.{Net}
use Rattle.domino_law.specs.Runs.{IsPower, Run, clocked_deck}
use Rattle.domino_law.specs.Settings.{HasPorts}
use Rattle.domino_law.specs.Shape.{Shape}
use Rattle.domino_law.proofs.OrderLaws.{events_are_few}
use Rattle.domino_law.proofs.PortRunLaws.{IsSet, power, power_set, set_run}
use Rattle.domino_law.proofs.RunsByPorts.{run_sets}
use Rattle.event_sim.specs.Orders.{By}
use Rattle.trace_tool.specs.Moves.{evaluation_moves, latching_moves, power_moves}
use Rattle.trace_tool.proofs.CycleMoves.{evaluation_allowed, evaluation_is, from_reading, latching_allowed, release_allowed, rises_end, to_reading}
use Rattle.trace_tool.proofs.FailedCourses.{Fails, fails}
use Rattle.trace_tool.proofs.PortWalks.{AreAllowed, AreFew, after_moves, allowed-append, settings-append, settings_from, settled_walk_never, walk_never}
use Rattle.chosen_law.specs.Chosen.{CycleNeverUnsettled, IsReadyForPins, IsSettled, PowerNeverUnsettled}
use Rattle.chosen_law.proofs.OwnReadings.{came_after}

module _ (order : ℕ → ℕ → ℕ → Type 0) (roles : Roles) (links : LinksData) (net : Net → ℕ) (s : Shape) (ports : HasPorts roles links net s)
    (loose : IsLooseDeck links net s)
    (start : World) (powered : IsPower links net s start) (set : IsSet roles links net s ports start) where
  -- between two moves of a legal run there are few events
  pub are_few : AreFew order (clocked_deck links s) roles start
  are_few steps events w w' r more =
      let run = set_run roles links net s ports steps start w r set in
      events_are_few links net s steps events start w w' loose powered run.0 (set_run roles links net s ports _ w w' more run.1).0

  -- so of moves in turn none fails to settle
  pub never_fails : (moves : List Move) (w : World) (step : ℕ) (settings : List (List PortValue)) (steps : List Step)
      → Run links net s steps start w
      → AreAllowed (clocked_deck links s) moves w → settings_from roles moves w ≡ settings → IsSettled links net s w
      → Fails order links (record { values = w.values; step = step }) settings → ⊥
  never_fails moves w step settings steps run allowed are f fail =
      walk_never order (clocked_deck links s) roles start are_few moves w w.values step steps
      (run_sets roles links net s ports steps start w run set) allowed f.rests
      (subst (Fails order links (record { values = w.values; step = step })) (sym are) fail)

-- the moves of a cycle, on one clock more than so many
module _ (roles : Roles) (links : LinksData) (net : Net → ℕ) (s : Shape) (ports : HasPorts roles links net s) (pins : List Bool)
    (w : World) where
  clocks_are : roles.clocks ≡ suc (roles.clocks - 1)
  clocks_are = omega (arith, ports.some_clock)

  pub cycle_is : settings_from roles (to_reading pins (roles.clocks - 1) ++ from_reading) w
      ≡ evaluation_moves roles pins ++ latching_moves roles
  cycle_is =
      settings-append roles (to_reading pins (roles.clocks - 1)) from_reading w
      ∙ ap (λ l. l ++ latching_moves roles) (evaluation_is roles pins (roles.clocks - 1) w clocks_are)

  pub cycle_allowed : IsReadyForPins links net s w → length pins ≡ s.pins
      → AreAllowed (clocked_deck links s) (to_reading pins (roles.clocks - 1) ++ from_reading) w
  cycle_allowed ready long =
      allowed-append (clocked_deck links s) (to_reading pins (roles.clocks - 1)) from_reading w
      (evaluation_allowed (clocked_deck links s) pins (roles.clocks - 1) w (ports.clocks_are ∙ clocks_are) ready.place long)
      (latching_allowed (clocked_deck links s) (after_moves (to_reading pins (roles.clocks - 1)) w) (ap (λ (u : World). u.place) end)
      (ap (λ (u : World). u.risen) end ∙ count))
    where
      count : 1 + (roles.clocks - 1) ≡ s.clocks
      count = omega (arith, ports.some_clock, ports.clocks_are)

      end : after_moves (to_reading pins (roles.clocks - 1)) w
          ≡ record (after_move (Open Evaluation) (after_move (Take pins) w)) { risen = 1 + (roles.clocks - 1) }
      end = rises_end (roles.clocks - 1) (after_move (Open Evaluation) (after_move (Take pins) w))

pub power_never_unsettled : PowerNeverUnsettled
power_never_unsettled place c roles net s events last reached loose ports e =
    let k : ClockedLinks = clocked_deck (links_of c roles) s in
    settled_walk_never (By place) k roles (power_world c roles)
    (are_few (By place) roles (links_of c roles) net s ports loose (power_world c roles) (power c roles net s ports)
    (power_set c roles net s ports))
    (Open Released ∷ []) (power_world c roles) (power_values c roles) 0 [] refl (release_allowed k (power_world c roles) refl)
    (fails (By place) (links_of c roles) (record { values = power_values c roles; step = 0 }) (power_moves roles) events last reached e)

pub cycle_never_unsettled : CycleNeverUnsettled
cycle_never_unsettled place c roles net s cycles pins powered events last start t reached loose ports all long power_leads passes e =
    let came = came_after place c roles net s ports cycles powered start t all power_leads passes in
    let f = fails (By place) (links_of c roles) t (evaluation_moves roles pins ++ latching_moves roles) events last reached e in
    never_fails (By place) roles (links_of c roles) net s ports loose (power_world c roles) (power c roles net s ports)
    (power_set c roles net s ports)
    (to_reading pins (roles.clocks - 1) ++ from_reading) came.world came.step _ came.steps came.run
    (cycle_allowed roles (links_of c roles) net s ports pins came.world came.ready long)
    (cycle_is roles (links_of c roles) net s ports pins came.world)
    (came.ready).settled
    (subst (λ x. Fails (By place) (links_of c roles) x (evaluation_moves roles pins ++ latching_moves roles)) came.values f)
