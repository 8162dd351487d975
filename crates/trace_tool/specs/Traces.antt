-- The trace of a deck over a stimulus.
use Rattle.std.specs.Prelude.{ℕ, ◌≡◌, ◌+◌, Bool, true, false, List, [], ◌∷◌, ◌++◌, Some, take, drop}
use Rattle.dom_base.specs.declared.tri.Tri.{Tri}
use Rattle.deck.specs.CircuitData.{CircuitData}
use Rattle.deck.specs.DeckText.{IsDeckOf}
use Rattle.deck.specs.PortLayout.{first_output}
use Rattle.deck.specs.Roles.{AreRoles, ports_of}
use Rattle.deck.specs.declared.role.Roles.{Roles}
use Rattle.switch_model.specs.Power.{power_values}
use Rattle.event_sim.specs.Orders.{By, first_place, last_place, seeded_place}
use Rattle.stim_text.specs.CycleLines.{cycle_line}
use Rattle.stim_text.specs.Stimuli.{IsStimulusOf}
use Rattle.port_runs.specs.declared.clocking.Clocking.{Clocking}
use Rattle.port_runs.specs.declared.clocking.Clocking.TheVariants.{Overlapping, Together}
use Rattle.trace_tool.specs.declared.options.Order.{Order}
use Rattle.trace_tool.specs.declared.options.Order.TheVariants.{First, Last, Seed}
use Rattle.trace_tool.specs.SetupData.{SetupData}
use Rattle.trace_tool.specs.Probes.{AreNets}
use Rattle.trace_tool.specs.Courses.{Course, IsCourse, Settled, State, Unsettled}
use Rattle.trace_tool.specs.Moves.{cycle_moves, evaluation_by, power_moves}
use Rattle.trace_tool.specs.TraceData.{TraceData, TraceOptionsData}
use Rattle.trace_tool.specs.TraceLines.{lines_of, power_line}

-- the values of the outputs, in order
abbrev pub outputs : Roles → List Tri → List Tri
outputs roles values = take roles.outs (drop (first_output roles) values)

-- the line of a cycle with these pins, read in this state, for the number of its events
abbrev pub row_line : SetupData → ℕ → List Bool → State → ℕ → List ℕ
row_line setup cycle pins read events =
    cycle_line (record { cycle = cycle; pins = pins; outs = outputs setup.roles read.values; events = Some events })

-- a cycle with these pins: its moves have this course, and it is read in the state in which those up to its reading end
pub record IsCycle (order : ℕ → ℕ → ℕ → Type 0) (setup : SetupData) (s : State) (pins : List Bool)
    (course : Course) (read last : State) : Type 0 where
  pub evaluated : Course
  pub evaluation : IsCourse order setup s (evaluation_by setup.clocking setup.roles pins) evaluated read
  pub whole : IsCourse order setup s (cycle_moves setup.clocking setup.roles pins) course last

-- a trace that begins with a course in a cycle, which has a line of its own: after a course that settled another trace
-- follows, and after one that ended unsettled nothing
abbrev pub IsTraceFrom : SetupData → ℕ → (ℕ → List ℕ) → Course → (TraceData → Type 0) → TraceData → Type 0
IsTraceFrom setup cycle line (Settled events) Follows trace =
    (rest : TraceData) × Follows rest
    × (trace ≡ record { text = lines_of setup cycle line (Settled events) ++ rest.text; settled = rest.settled })
IsTraceFrom setup cycle line (Unsettled events last) Follows trace =
    trace ≡ record { text = lines_of setup cycle line (Unsettled events last); settled = false }

-- the trace of the cycles from one on, from a state
abbrev pub AreCycles : (ℕ → ℕ → ℕ → Type 0) → SetupData → State → ℕ → List (List Bool) → TraceData → Type 0
AreCycles order setup s cycle [] trace = trace ≡ record { text = []; settled = true }
AreCycles order setup s cycle (pins ∷ more) trace =
    (course : Course) × (read last : State) × IsCycle order setup s pins course read last
    × IsTraceFrom setup cycle (row_line setup cycle pins read) course (AreCycles order setup last (cycle + 1) more) trace

-- the power state, before the first event
abbrev pub power_state : SetupData → State
power_state setup = record { values = power_values setup.circuit setup.roles; step = 0 }

-- the trace of a run over these cycles: power, then each cycle
abbrev pub IsRun : (ℕ → ℕ → ℕ → Type 0) → SetupData → List (List Bool) → TraceData → Type 0
IsRun order setup cycles trace =
    (course : Course) × (start : State) × IsCourse order setup (power_state setup) (power_moves setup.roles) course start
    × IsTraceFrom setup 0 power_line course (AreCycles order setup start 0 cycles) trace

-- the place in the list of pending nets that an order picks, at a step and for a number of them
abbrev pub picked_place : Order → ℕ → ℕ → ℕ → ℕ
picked_place First seed = first_place
picked_place Last seed = last_place
picked_place Seed seed = seeded_place seed

-- the setup of a circuit whose clocks fall so, in which the events are told that the options ask for
abbrev pub setup_of : Clocking → CircuitData → Roles → TraceOptionsData → SetupData
setup_of clocking circuit roles options =
    record { circuit = circuit; roles = roles; clocking = clocking; events = options.events; probes = options.probes }

-- the trace of a deck over a stimulus, where its clocks fall so: its circuit has its ports in order and a net of each probe word's name,
-- and is run over the cycles
pub record IsTraceBy (clocking : Clocking) (deck stim : List ℕ) (options : TraceOptionsData) (trace : TraceData) : Type 0 where
  pub circuit : CircuitData
  pub roles : Roles
  pub cycles : List (List Bool)
  pub is_deck : IsDeckOf deck circuit
  pub are_roles : AreRoles (ports_of circuit) roles
  pub are_nets : AreNets circuit.nets options.probes
  pub is_stimulus : IsStimulusOf roles.pins stim cycles
  pub is_run : IsRun (By (picked_place options.order options.seed)) (setup_of clocking circuit roles options) cycles trace

-- where they fall together, and where they overlap
abbrev pub IsTraceOf : List ℕ → List ℕ → TraceOptionsData → TraceData → Type 0
IsTraceOf deck stim options trace = IsTraceBy Together deck stim options trace

abbrev pub IsOverlappingTraceOf : List ℕ → List ℕ → TraceOptionsData → TraceData → Type 0
IsOverlappingTraceOf deck stim options trace = IsTraceBy Overlapping deck stim options trace
