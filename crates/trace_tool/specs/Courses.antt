-- Courses: what moves in turn come to, each followed by its settling.
use Rattle.std.specs.Prelude.{ℕ, ◌≡◌, List, [], ◌∷◌, ◌++◌}
use Rattle.dom_base.specs.declared.tri.Tri.{Tri}
use Rattle.switch_model.specs.LinksData.{LinksData, links_of}
use Rattle.event_sim.specs.declared.event.Event.{Event}
use Rattle.event_sim.specs.Chains.{step_after, values_after}
use Rattle.event_sim.specs.Settling.{EndsAtRest, EndsUnsettled}
use Rattle.port_runs.specs.Moves.{PortValue, set_all}
use Rattle.trace_tool.specs.SetupData.{SetupData}

-- the value of each net, and the step, which counts events modulo 2^64
pub record State : Type 0 where
  pub values : List Tri
  pub step : ℕ

-- the state after a move, and after events
abbrev pub moved : State → List PortValue → State
moved s move = record { values = set_all s.values move; step = s.step }

abbrev pub after : State → List Event → State
after s events = record { values = values_after s.values events; step = step_after s.step events }

-- what moves come to: all settle, by these events; or one does not, after these, the last of them its own
pub data Course : Type 0 where
  Settled : (events : List Event) → Course
  Unsettled : (events last : List Event) → Course

-- the moves in turn, each with a settling that ends at rest, lead from one state to another by these events
abbrev pub LeadsTo : (ℕ → ℕ → ℕ → Type 0) → LinksData → State → List (List PortValue) → List Event → State → Type 0
LeadsTo order links s [] events t = (events ≡ []) × (t ≡ s)
LeadsTo order links s (move ∷ moves) events t =
    (first rest : List Event) × (events ≡ first ++ rest)
    × EndsAtRest order links (moved s move).values s.step first
    × LeadsTo order links (after (moved s move) first) moves rest t

-- of the moves in turn, each with its settling, one ends unsettled: all events up to its end, and those of it alone
pub record EndsWithin (order : ℕ → ℕ → ℕ → Type 0) (links : LinksData) (s : State) (moves : List (List PortValue))
    (events last : List Event) (t : State) : Type 0 where
  pub before : List (List PortValue)
  pub move : List PortValue
  pub never : List (List PortValue)
  pub moves_are : moves ≡ before ++ move ∷ never
  pub earlier : List Event
  pub state : State
  pub leads : LeadsTo order links s before earlier state
  pub unsettled : EndsUnsettled order links (moved state move).values state.step last
  pub events_are : events ≡ earlier ++ last
  pub reached : t ≡ after (moved state move) last

-- from a state the moves in turn have this course in an order of events, and it ends in that state
abbrev pub IsCourse : (ℕ → ℕ → ℕ → Type 0) → SetupData → State → List (List PortValue) → Course → State → Type 0
IsCourse order setup s moves (Settled events) t = LeadsTo order (links_of setup.circuit setup.roles) s moves events t
IsCourse order setup s moves (Unsettled events last) t = EndsWithin order (links_of setup.circuit setup.roles) s moves events last t
