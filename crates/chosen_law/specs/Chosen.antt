-- The chosen run of a trace is a legal run of a loose domino deck.
use Rattle.std.specs.Prelude.{◌≡◌, ◌⊎◌, ℕ, Bool, List, [], ◌∷◌, ◌++◌, length}
use Rattle.std.specs.List.{AllByRecursion}
use Rattle.deck.specs.declared.role.Roles.{Roles}
use Rattle.deck.specs.CircuitData.{CircuitData}
use Rattle.switch_model.specs.LinksData.{LinksData, links_of}
use Rattle.switch_model.specs.Power.{power_values}
use Rattle.port_runs.specs.Environment.{Evaluation, Launched, Released, Reset, Step, World, is_over, none_fallen}
use Rattle.port_runs.specs.Moves.{PortValue}
use Rattle.domino_law.specs.Nets.{Net}
use Rattle.domino_law.specs.OwnRun.{bit_at}
use Rattle.domino_law.specs.Places.{AreSources}
use Rattle.domino_law.specs.Runs.{Run}
use Rattle.domino_law.specs.Settings.{HasPorts, HaveRisen}
use Rattle.domino_law.specs.Shape.{Shape}
use Rattle.domino_law.specs.Laws.{HasOwnValues}
use Rattle.port_runs.specs.LegalSteps.{RestsIn}
use Rattle.domino_law.specs.LooseDeck.{IsLooseDeck}
use Rattle.event_sim.specs.declared.event.Event.{Event}
use Rattle.event_sim.specs.Orders.{By}
use Rattle.trace_tool.specs.Moves.{evaluation_moves, latching_moves, power_moves}
use Rattle.trace_tool.specs.Courses.{EndsWithin, LeadsTo, State}

-- a world at rest, with a value for each net and the sources as its place says, in which the clocks that have fallen had risen
pub record IsSettled (links : LinksData) (net : Net → ℕ) (s : Shape) (w : World) : Type 0 where
  pub rests : RestsIn links w
  pub whole : length w.values ≡ links.nets
  pub sources : AreSources net s w.place w.risen w.fallen (bit_at w.pins) w.values
  pub early : HaveRisen w

-- a world from which a cycle may begin
pub record IsReadyForPins (links : LinksData) (net : Net → ℕ) (s : Shape) (w : World) : Type 0 where
  pub place : (w.place ≡ Released) ⊎ (w.place ≡ Launched)
  pub settled : IsSettled links net s w

-- power, from the power state on, is a legal run to the rest of `released`
abbrev pub PowerIsLegal : Type 0
PowerIsLegal =
    (place : ℕ → ℕ → ℕ) (c : CircuitData) (roles : Roles) (net : Net → ℕ) (s : Shape) (events : List Event) (start : State)
    → HasPorts roles (links_of c roles) net s
    → LeadsTo (By place) (links_of c roles) (record { values = power_values c roles; step = 0 }) (power_moves roles) events start
    → (steps : List Step)
    × Run (links_of c roles) net s steps (record { place = Reset; risen = 0; fallen = none_fallen; past = []; pins = []; values = power_values c roles })
    (record { place = Released; risen = 0; fallen = none_fallen; past = []; pins = []; values = start.values })
    × IsReadyForPins (links_of c roles) net s (record { place = Released; risen = 0; fallen = none_fallen; past = []; pins = []; values = start.values })

-- where a cycle is read, with these clocks fallen
abbrev pub at_reading : Shape → (ℕ → Bool) → List (List Bool) → List Bool → State → World
at_reading s fallen past pins read =
    record { place = Evaluation; risen = s.clocks; fallen = fallen; past = past; pins = pins; values = read.values }

-- a cycle up to its reading is a legal run to a reading
abbrev pub EvaluationIsLegal : Type 0
EvaluationIsLegal =
    (place : ℕ → ℕ → ℕ) (roles : Roles) (links : LinksData) (net : Net → ℕ) (s : Shape) (pins : List Bool) (events : List Event)
    (w : World) (step : ℕ) (read : State)
    → HasPorts roles links net s → IsReadyForPins links net s w → length pins ≡ s.pins
    → LeadsTo (By place) links (record { values = w.values; step = step }) (evaluation_moves roles pins) events read
    → (steps : List Step)
    × Run links net s steps w (at_reading s none_fallen (is_over w.place w.past w.pins) pins read)
    × IsSettled links net s (at_reading s none_fallen (is_over w.place w.past w.pins) pins read)

-- and from its reading on it is one to the rest of `launched`
abbrev pub LatchingIsLegal : Type 0
LatchingIsLegal =
    (place : ℕ → ℕ → ℕ) (roles : Roles) (links : LinksData) (net : Net → ℕ) (s : Shape) (events : List Event)
    (w : World) (step : ℕ) (last : State)
    → HasPorts roles links net s → w.place ≡ Evaluation → w.risen ≡ s.clocks → IsSettled links net s w
    → LeadsTo (By place) links (record { values = w.values; step = step }) (latching_moves roles) events last
    → (steps : List Step)
    × Run links net s steps w (record { place = Launched; risen = w.risen; fallen = w.fallen; past = w.past; pins = w.pins; values = last.values })
    × IsReadyForPins links net s (record { place = Launched; risen = w.risen; fallen = w.fallen; past = w.past; pins = w.pins; values = last.values })

-- cycles with these pins that come to rest throughout, in turn, where these moves lead to the reading of one
abbrev pub Passes : (ℕ → ℕ → ℕ → Type 0) → LinksData → Roles → (List Bool → List (List PortValue)) → State → List (List Bool) → State → Type 0
Passes order links roles evaluation t [] u = u ≡ t
Passes order links roles evaluation t (pins ∷ more) u =
    (read last : State) × (evaluated latched : List Event)
    × LeadsTo order links t (evaluation pins) evaluated read
    × LeadsTo order links read (latching_moves roles) latched last
    × Passes order links roles evaluation last more u

-- what the chosen run of a loose domino deck reads in a cycle is what the own run has in it
abbrev pub ReadsOwnRun : Type 0
ReadsOwnRun =
    (place : ℕ → ℕ → ℕ) (c : CircuitData) (roles : Roles) (net : Net → ℕ) (s : Shape) (cycles : List (List Bool)) (pins : List Bool)
    (powered evaluated : List Event) (start last read : State)
    → IsLooseDeck (links_of c roles) net s → HasPorts roles (links_of c roles) net s
    → AllByRecursion (λ p. length p ≡ s.pins) cycles → length pins ≡ s.pins
    → LeadsTo (By place) (links_of c roles) (record { values = power_values c roles; step = 0 }) (power_moves roles) powered start
    → Passes (By place) (links_of c roles) roles (evaluation_moves roles) start cycles last
    → LeadsTo (By place) (links_of c roles) last (evaluation_moves roles pins) evaluated read
    → HasOwnValues net s (at_reading s none_fallen cycles pins read)

-- and no settling of it ends unsettled: neither at power nor in a cycle
abbrev pub PowerNeverUnsettled : Type 0
PowerNeverUnsettled =
    (place : ℕ → ℕ → ℕ) (c : CircuitData) (roles : Roles) (net : Net → ℕ) (s : Shape) (events last : List Event) (reached : State)
    → IsLooseDeck (links_of c roles) net s → HasPorts roles (links_of c roles) net s
    → EndsWithin (By place) (links_of c roles) (record { values = power_values c roles; step = 0 }) (power_moves roles) events last reached
    → ⊥

abbrev pub CycleNeverUnsettled : Type 0
CycleNeverUnsettled =
    (place : ℕ → ℕ → ℕ) (c : CircuitData) (roles : Roles) (net : Net → ℕ) (s : Shape) (cycles : List (List Bool)) (pins : List Bool)
    (powered events last : List Event) (start t reached : State)
    → IsLooseDeck (links_of c roles) net s → HasPorts roles (links_of c roles) net s
    → AllByRecursion (λ p. length p ≡ s.pins) cycles → length pins ≡ s.pins
    → LeadsTo (By place) (links_of c roles) (record { values = power_values c roles; step = 0 }) (power_moves roles) powered start
    → Passes (By place) (links_of c roles) roles (evaluation_moves roles) start cycles t
    → EndsWithin (By place) (links_of c roles) t (evaluation_moves roles pins ++ latching_moves roles) events last reached → ⊥
