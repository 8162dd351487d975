-- No settling of the chosen run of a deck whose clocks overlap ends unsettled.
use Rattle.std.proofs.Common.{Bool, List, ap, arith, length, subst, ℕ, ◌++◌, ◌+◌, ◌-◌, ◌∙◌, ◌≡◌}
use Rattle.deck.specs.declared.role.Roles.{Roles}
use Rattle.switch_model.specs.LinksData.{LinksData, links_of}
use Rattle.port_runs.specs.Environment.{Evaluation, Open, Take, World, after_move}
use Rattle.port_runs.specs.declared.clocking.Clocking.TheVariants.{Overlapping}
use Rattle.port_runs.specs.PortRuns.{power_world}
use Rattle.domino_law.specs.Nets.{Net}
use Rattle.domino_law.specs.Runs.{clocked_deck}
use Rattle.domino_law.specs.Settings.{HasPorts}
use Rattle.domino_law.specs.Shape.{Shape}
use Rattle.domino_law.proofs.PortRunLaws.{power, power_set}
use Rattle.event_sim.specs.Orders.{By}
use Rattle.trace_tool.specs.Moves.{latching_moves, overlapping_moves}
use Rattle.trace_tool.proofs.CycleMoves.{falls_end, from_reading, latching_allowed, overlapping_is, overlapping_reading}
use Rattle.trace_tool.proofs.FailedCourses.{Fails, fails}
use Rattle.trace_tool.proofs.PortWalks.{AreAllowed, after_moves, allowed-append, settings-append, settings_from}
use Rattle.chosen_law.specs.Chosen.{IsReadyForPins}
use Rattle.chosen_law.specs.Overlapping.{OverlappingCycleNeverUnsettled}
use Rattle.chosen_law.proofs.NeverUnsettled.{never_fails}
use Rattle.chosen_law.proofs.Overlapping.{overlapping_allowed, overlapping_came}

module _ (roles : Roles) (links : LinksData) (net : Net → ℕ) (s : Shape) (ports : HasPorts roles links net s)
    (overlap : s.clocking ≡ Overlapping)
    (pins : List Bool) (w : World) where
  pub cycle_is : settings_from roles (overlapping_reading pins (roles.clocks - 1) ++ from_reading) w
      ≡ overlapping_moves roles pins ++ latching_moves roles
  cycle_is =
      settings-append roles (overlapping_reading pins (roles.clocks - 1)) from_reading w
      ∙ ap (λ l. l ++ latching_moves roles) (overlapping_is roles pins w)

  pub cycle_allowed : IsReadyForPins links net s w → length pins ≡ s.pins
      → AreAllowed (clocked_deck links s) (overlapping_reading pins (roles.clocks - 1) ++ from_reading) w
  cycle_allowed ready long =
      let count : 1 + (roles.clocks - 1) ≡ s.clocks = omega (arith, ports.some_clock, ports.clocks_are) in
      let end = falls_end 0 (roles.clocks - 1) (after_move (Open Evaluation) (after_move (Take pins) w)) in
      allowed-append (clocked_deck links s) (overlapping_reading pins (roles.clocks - 1)) from_reading w
      (overlapping_allowed roles links net s ports overlap pins w ready long)
      (latching_allowed (clocked_deck links s) (after_moves (overlapping_reading pins (roles.clocks - 1)) w)
      (ap (λ (u : World). u.place) end)
      (ap (λ (u : World). u.risen) end ∙ count))

pub overlapping_cycle_never_unsettled : OverlappingCycleNeverUnsettled
overlapping_cycle_never_unsettled place c roles net s cycles pins powered events last start t reached overlap loose ports all long power_leads passes e =
    let came = overlapping_came place c roles net s ports overlap cycles powered start t all power_leads passes in
    let f = fails (By place) (links_of c roles) t (overlapping_moves roles pins ++ latching_moves roles) events last reached e in
    never_fails (By place) roles (links_of c roles) net s ports loose (power_world c roles) (power c roles net s ports)
    (power_set c roles net s ports)
    (overlapping_reading pins (roles.clocks - 1) ++ from_reading) came.world came.step _ came.steps came.run
    (cycle_allowed roles (links_of c roles) net s ports overlap pins came.world came.ready long)
    (cycle_is roles (links_of c roles) net s ports overlap pins came.world)
    (came.ready).settled
    (subst (λ x. Fails (By place) (links_of c roles) x (overlapping_moves roles pins ++ latching_moves roles)) came.values f)
