-- Runs: what the code's run holds, and what its calls do.
use Rattle.std.specs.Prelude.{ℕ, ◌≡◌, ◌≤◌, ◌<◌, ◌*◌, ◌^◌, Bool, true, false, List, [], ◌∷◌, ◌++◌, length, map}
use Rattle.std.specs.Prelude.{suc, zero, ◌+◌, take, drop, Result, Ok, Err}
use Rattle.dom_base.specs.declared.tri.Tri.{Tri}
use Rattle.dom_base.specs.declared.tri.Tri.TheVariants.{One, Zero}
use Rattle.deck.specs.PortLayout.{first_clock}
use Rattle.deck.specs.Roles.{AreRoles, ports_of}
use Rattle.switch_model.specs.LinksData.{links_of}
use Rattle.event_sim.specs.Chains.{IsChosen}
use Rattle.event_sim.specs.Pending.{IsResting}
use Rattle.event_sim.specs.Settling.{EndsAtRest, EndsUnsettled}
use Rattle.event_sim.specs.SimData.{SimData}
use Rattle.event_sim.specs.declared.event.Event.{Event}
use Rattle.trace_tool.specs.Courses.{Course, IsCourse, Settled, State, Unsettled, after, moved}
use Rattle.port_runs.specs.Moves.{PortValue, set_all, set_from}
use Rattle.trace_tool.specs.Moves.{cycle_moves, evaluation_by, power_moves}
use Rattle.trace_tool.specs.TraceLines.{event_lines, lines_of, power_line, unsettled_line}
use Rattle.trace_tool.specs.Traces.{AreCycles, IsCycle, power_state, row_line}
use Rattle.port_runs.specs.declared.clocking.Clocking.{Clocking}
use Rattle.port_runs.specs.declared.clocking.Clocking.TheVariants.{Overlapping, Together}
use Rattle.trace_tool.specs.declared.halt.Halt.{Halt}
use Rattle.trace_tool.specs.declared.halt.Halt.TheVariants as halts
use Rattle.trace_tool.specs.SetupData.{SetupData}

-- the values of so many nets from one on
abbrev pub values_from : ℕ → ℕ → List Tri → List Tri
values_from net count values = take count (drop net values)

-- clock k rises; where clocks overlap, then the one before it falls
abbrev pub clock_moves : Clocking → ℕ → List (List PortValue)
clock_moves Together k = set_from (first_clock + k) (One ∷ []) ∷ []
clock_moves Overlapping zero = set_from (first_clock + 0) (One ∷ []) ∷ []
clock_moves Overlapping (suc k) = set_from (first_clock + suc k) (One ∷ []) ∷ set_from (first_clock + k) (Zero ∷ []) ∷ []

-- so many clocks from one on, in turn
abbrev pub raised : Clocking → ℕ → ℕ → List (List PortValue)
raised clocking k zero = []
raised clocking k (suc n) = clock_moves clocking k ++ raised clocking (k + 1) n

-- a run: its setup, who picks, the state of the nets, and the text so far
pub record RunData (F : Type 0) : Type 0 where
  pub setup : SetupData
  pub pick : F
  pub state : State
  pub text : List ℕ

-- the events of a course
abbrev pub course_events : Course → List Event
course_events (Settled events) = events
course_events (Unsettled events last) = events

-- whether all moves of a course settled
abbrev pub is_settled : Course → Bool
is_settled (Settled events) = true
is_settled (Unsettled events last) = false

module _ {F : Type 0} where
  -- a simulation after a move
  abbrev pub with_move : SimData F → List PortValue → SimData F
  with_move s move = record s { values = set_all s.values move }

  -- a simulation of the setup's circuit, which has the setup's roles
  pub record IsRunning (setup : SetupData) (sim : SimData F) : Type 0 where
    pub are_roles : AreRoles (ports_of setup.circuit) setup.roles
    pub links_are : sim.links ≡ links_of setup.circuit setup.roles
    pub whole : length sim.values ≡ length setup.circuit.nets
    pub few : length sim.values ≤ 2 ^ 26
    pub fits : sim.step < 2 ^ 64

  -- a run in the power state
  abbrev pub power_run : F → SetupData → RunData F
  power_run pick setup = record { setup = setup; pick = pick; state = power_state setup; text = [] }

  -- a run after a move, with a further line, and after events with their lines
  abbrev pub with_moved : RunData F → List PortValue → RunData F
  with_moved r move = record { setup = r.setup; pick = r.pick; state = moved r.state move; text = r.text }

  abbrev pub with_line : RunData F → List ℕ → RunData F
  with_line r line = record { setup = r.setup; pick = r.pick; state = r.state; text = r.text ++ line }

  abbrev pub with_events : RunData F → List Event → RunData F
  with_events r events =
      record { setup = r.setup; pick = r.pick; state = after r.state events; text = r.text ++ event_lines r.setup events }

  -- one event, the chosen one; or there is rest
  abbrev pub StepsOnce : (F → ℕ → ℕ → ℕ → Type 0) → RunData F → Bool → RunData F → Type 0
  StepsOnce P before true now =
      (event : Event) × (event.step ≡ before.state.step)
      × IsChosen (P before.pick) (links_of before.setup.circuit before.setup.roles) before.state.values event
      × (now ≡ with_events before (event ∷ []))
  StepsOnce P before false now = IsResting (links_of before.setup.circuit before.setup.roles) before.state.values × (now ≡ before)

  -- moves had this course in a run, whose text has the lines of the events
  pub record Ran (P : F → ℕ → ℕ → ℕ → Type 0) (moves : List (List PortValue)) (course : Course) (before now : RunData F) : Type 0 where
    pub course_is : IsCourse (P before.pick) before.setup before.state moves course now.state
    pub text_is : now.text ≡ before.text ++ event_lines before.setup (course_events course)
    pub same_setup : now.setup ≡ before.setup
    pub same_pick : now.pick ≡ before.pick

  -- a settling with so many events, which ended at rest or not
  abbrev pub Settles : (F → ℕ → ℕ → ℕ → Type 0) → RunData F → Result ℕ Halt → RunData F → Type 0
  Settles P before (Ok count) now =
      (events : List Event)
      × EndsAtRest (P before.pick) (links_of before.setup.circuit before.setup.roles) before.state.values before.state.step events
      × (now ≡ with_events before events) × (count ≡ length events) × (count ≤ 2 ^ 53)
  Settles P before (Err (halts.Unsettled count)) now =
      (events : List Event)
      × EndsUnsettled (P before.pick) (links_of before.setup.circuit before.setup.roles) before.state.values before.state.step events
      × (now ≡ with_events before events) × (count ≡ length events)
  Settles P before (Err halts.Memory) now = Unit {0}

  -- moves settled with so many events, or one of them ended unsettled after so many of its own
  abbrev pub Runs : (F → ℕ → ℕ → ℕ → Type 0) → List (List PortValue) → RunData F → Result ℕ Halt → RunData F → Type 0
  Runs P moves before (Ok count) now =
      (events : List Event) × Ran P moves (Settled events) before now × (count ≡ length events) × (count ≤ length moves * 2 ^ 53)
  Runs P moves before (Err (halts.Unsettled count)) now =
      (events last : List Event) × Ran P moves (Unsettled events last) before now × (count ≡ length last)
  Runs P moves before (Err halts.Memory) now = Unit {0}

  -- the text has the line of the settling that halted a run in a cycle
  abbrev pub IsHalted : ℕ → Halt → RunData F → RunData F → Type 0
  IsHalted cycle (halts.Unsettled events) before now = now ≡ with_line before (unsettled_line cycle events)
  IsHalted cycle halts.Memory before now = ⊥

  -- a course settled or not, and the text has its lines
  pub record IsPrinted (cycle : ℕ) (line : ℕ → List ℕ) (course : Course) (before : RunData F) (settled : Bool) (now : RunData F)
      : Type 0 where
    pub settled_is : settled ≡ is_settled course
    pub text_is : now.text ≡ before.text ++ lines_of before.setup cycle line course
    pub same_setup : now.setup ≡ before.setup
    pub same_pick : now.pick ≡ before.pick

  -- power, with its lines
  abbrev pub RunsPower : (F → ℕ → ℕ → ℕ → Type 0) → RunData F → Bool → RunData F → Type 0
  RunsPower P before settled now =
      (course : Course) × IsCourse (P before.pick) before.setup before.state (power_moves before.setup.roles) course now.state
      × IsPrinted 0 power_line course before settled now

  -- a cycle, with its lines
  abbrev pub RunsCycle : (F → ℕ → ℕ → ℕ → Type 0) → ℕ → List Bool → RunData F → Bool → RunData F → Type 0
  RunsCycle P cycle pins before settled now =
      (course : Course) × (read : State) × IsCycle (P before.pick) before.setup before.state pins course read now.state
      × IsPrinted cycle (row_line before.setup cycle pins read) course before settled now

  -- a cycle halted: one of its moves ended unsettled, after so many events of its own, and the text has the lines of all
  abbrev pub HaltsCycle : (F → ℕ → ℕ → ℕ → Type 0) → List Bool → RunData F → Halt → RunData F → Type 0
  HaltsCycle P pins before (halts.Unsettled count) now =
      (events last : List Event) × (evaluated : Course) × (read : State)
      × IsCourse (P before.pick) before.setup before.state (evaluation_by before.setup.clocking before.setup.roles pins) evaluated read
      × Ran P (cycle_moves before.setup.clocking before.setup.roles pins) (Unsettled events last) before now × (count ≡ length last)
  HaltsCycle P pins before halts.Memory now = Unit {0}

  -- a cycle settled, and has its lines; or it halted
  abbrev pub EndsCycle : {T : Type 0} → (F → ℕ → ℕ → ℕ → Type 0) → ℕ → List Bool → RunData F → Result T Halt → RunData F → Type 0
  EndsCycle P cycle pins before (Ok done) now = RunsCycle P cycle pins before true now
  EndsCycle P cycle pins before (Err halt) now = HaltsCycle P pins before halt now

  -- the cycles were run from the first on, and the text has their lines
  abbrev pub HasCycles : (F → ℕ → ℕ → ℕ → Type 0) → RunData F → List (List Bool) → Bool → RunData F → Type 0
  HasCycles P before cycles settled now =
      (lines : List ℕ) × AreCycles (P before.pick) before.setup before.state 0 cycles (record { text = lines; settled = settled })
      × (now.text ≡ before.text ++ lines)
