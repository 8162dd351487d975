-- The chosen run of a deck whose clocks overlap, in which each clock but the last falls once the rise of the next one has settled, and
-- what it reads (Harris and Horowitz, Skew-tolerant domino circuits).
use Rattle.std.specs.Prelude.{Bool, List, length, ℕ, ◌++◌, ◌≡◌}
use Rattle.std.specs.List.{AllByRecursion}
use Rattle.deck.specs.CircuitData.{CircuitData}
use Rattle.deck.specs.declared.role.Roles.{Roles}
use Rattle.switch_model.specs.LinksData.{LinksData, links_of}
use Rattle.switch_model.specs.Power.{power_values}
use Rattle.port_runs.specs.Environment.{Step, World, is_over}
use Rattle.port_runs.specs.declared.clocking.Clocking.TheVariants.{Overlapping}
use Rattle.domino_law.specs.Laws.{HasOwnValues}
use Rattle.domino_law.specs.LooseDeck.{IsLooseDeck}
use Rattle.domino_law.specs.Nets.{Net}
use Rattle.domino_law.specs.Runs.{Run}
use Rattle.domino_law.specs.Settings.{HasPorts}
use Rattle.domino_law.specs.Shape.{Shape}
use Rattle.event_sim.specs.Orders.{By}
use Rattle.event_sim.specs.declared.event.Event.{Event}
use Rattle.trace_tool.specs.Courses.{EndsWithin, LeadsTo, State}
use Rattle.trace_tool.specs.Moves.{latching_moves, overlapping_moves, power_moves}
use Rattle.chosen_law.specs.Chosen.{IsReadyForPins, IsSettled, Passes, at_reading}

-- it is a legal run to a reading
abbrev pub OverlappingEvaluationIsLegal : Type 0
OverlappingEvaluationIsLegal =
    (place : ℕ → ℕ → ℕ) (roles : Roles) (links : LinksData) (net : Net → ℕ) (s : Shape) (pins : List Bool) (events : List Event)
    (w : World) (step : ℕ) (read : State)
    → s.clocking ≡ Overlapping → HasPorts roles links net s → IsReadyForPins links net s w → length pins ≡ s.pins
    → LeadsTo (By place) links (record { values = w.values; step = step }) (overlapping_moves roles pins) events read
    → (fallen : ℕ → Bool) × (steps : List Step)
    × Run links net s steps w (at_reading s fallen (is_over w.place w.past w.pins) pins read)
    × IsSettled links net s (at_reading s fallen (is_over w.place w.past w.pins) pins read)

-- what the chosen run reads in a cycle is what the own run has in it
abbrev pub OverlappingReadsOwnRun : Type 0
OverlappingReadsOwnRun =
    (place : ℕ → ℕ → ℕ) (c : CircuitData) (roles : Roles) (net : Net → ℕ) (s : Shape) (cycles : List (List Bool)) (pins : List Bool)
    (powered evaluated : List Event) (start last read : State)
    → s.clocking ≡ Overlapping → IsLooseDeck (links_of c roles) net s → HasPorts roles (links_of c roles) net s
    → AllByRecursion (λ p. length p ≡ s.pins) cycles → length pins ≡ s.pins
    → LeadsTo (By place) (links_of c roles) (record { values = power_values c roles; step = 0 }) (power_moves roles) powered start
    → Passes (By place) (links_of c roles) roles (overlapping_moves roles) start cycles last
    → LeadsTo (By place) (links_of c roles) last (overlapping_moves roles pins) evaluated read
    → (fallen : ℕ → Bool) × HasOwnValues net s (at_reading s fallen cycles pins read)

-- and no settling of it ends unsettled
abbrev pub OverlappingCycleNeverUnsettled : Type 0
OverlappingCycleNeverUnsettled =
    (place : ℕ → ℕ → ℕ) (c : CircuitData) (roles : Roles) (net : Net → ℕ) (s : Shape) (cycles : List (List Bool)) (pins : List Bool)
    (powered events last : List Event) (start t reached : State)
    → s.clocking ≡ Overlapping → IsLooseDeck (links_of c roles) net s → HasPorts roles (links_of c roles) net s
    → AllByRecursion (λ p. length p ≡ s.pins) cycles → length pins ≡ s.pins
    → LeadsTo (By place) (links_of c roles) (record { values = power_values c roles; step = 0 }) (power_moves roles) powered start
    → Passes (By place) (links_of c roles) roles (overlapping_moves roles) start cycles t
    → EndsWithin (By place) (links_of c roles) t (overlapping_moves roles pins ++ latching_moves roles) events last reached → ⊥
