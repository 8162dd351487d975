-- A deck whose ports are in order has a trace over each stimulus for its pins.
use Rattle.std.proofs.Common.{ℕ, ◌+◌, Bool, true, false, List, [], ◌∷◌, ◌++◌, refl}
use Rattle.event_sim.specs.Laws.{IsBelow}
use Rattle.event_sim.specs.Orders.{By}
use Rattle.event_sim.proofs.ThreeOrders.{orders_are_below}
use Rattle.port_runs.specs.declared.clocking.Clocking.{Clocking}
use Rattle.port_runs.specs.declared.clocking.Clocking.TheVariants.{Together}
use Rattle.trace_tool.specs.Courses.{Course, Settled, State, Unsettled}
use Rattle.trace_tool.specs.Laws.{TraceIsThere}
use Rattle.trace_tool.specs.Moves.{cycle_moves, evaluation_by, power_moves}
use Rattle.trace_tool.specs.TraceData.{TraceData}
use Rattle.trace_tool.specs.TraceLines.{lines_of, power_line}
use Rattle.trace_tool.specs.Traces.{AreCycles, IsRun, IsTraceFrom, picked_place, power_state, row_line, setup_of}
use Rattle.trace_tool.specs.declared.options.Order.{Order}
use Rattle.trace_tool.specs.declared.options.Order.TheVariants.{First, Last, Seed}
use Rattle.trace_tool.specs.SetupData.{SetupData}
use Rattle.trace_tool.proofs.CourseThere.{course_is_there}

pub order-below : (order : Order) (seed : ℕ) → IsBelow (picked_place order seed)
order-below First seed = orders_are_below.first
order-below Last seed = orders_are_below.last
order-below Seed seed = orders_are_below.seeded seed

-- a trace that begins with a course is there where one is that follows
trace_from_there : (setup : SetupData) (cycle : ℕ) (line : ℕ → List ℕ) (course : Course) (Rest : TraceData → Type 0)
    → (rest : TraceData) × Rest rest → (trace : TraceData) × IsTraceFrom setup cycle line course Rest trace
trace_from_there setup cycle line (Settled events) Rest (rest, h) =
    (record { text = lines_of setup cycle line (Settled events) ++ rest.text; settled = rest.settled }, (rest, h, refl))
trace_from_there setup cycle line (Unsettled events last) Rest more =
    (record { text = lines_of setup cycle line (Unsettled events last); settled = false }, refl)

cycles-there : (place : ℕ → ℕ → ℕ) (setup : SetupData) → IsBelow place → (s : State) (cycle : ℕ) (cycles : List (List Bool))
    → (trace : TraceData) × AreCycles (By place) setup s cycle cycles trace
cycles-there place setup below s cycle [] = (record { text = []; settled = true }, refl)
cycles-there place setup below s cycle (pins ∷ more) =
    let half = course_is_there place setup below s (evaluation_by setup.clocking setup.roles pins) in
    let all = course_is_there place setup below s (cycle_moves setup.clocking setup.roles pins) in
    let from = trace_from_there setup cycle (row_line setup cycle pins half.1) all.0 (AreCycles (By place) setup all.1 (cycle + 1) more)
    (cycles-there place setup below all.1 (cycle + 1) more) in
    (from.0, (all.0, half.1, all.1, record { evaluated = half.0; evaluation = half.2; whole = all.2 }, from.1))

run-there : (place : ℕ → ℕ → ℕ) (setup : SetupData) → IsBelow place → (cycles : List (List Bool)) → (trace : TraceData) × IsRun (By place) setup cycles trace
run-there place setup below cycles =
    let power = course_is_there place setup below (power_state setup) (power_moves setup.roles) in
    let from = trace_from_there setup 0 power_line power.0 (AreCycles (By place) setup power.1 0 cycles) (cycles-there place setup below power.1 0 cycles) in
    (from.0, (power.0, power.1, power.2, from.1))

pub there_by : (clocking : Clocking) → TraceIsThere clocking
there_by clocking deck stim options circuit roles cycles is_deck are_roles are_nets is_stimulus =
    let run = run-there (picked_place options.order options.seed) (setup_of clocking circuit roles options)
    (order-below options.order options.seed) cycles in (
      run.0,
      record {
        circuit = circuit;
        roles = roles;
        cycles = cycles;
        is_deck = is_deck;
        are_roles = are_roles;
        are_nets = are_nets;
        is_stimulus = is_stimulus;
        is_run = run.1;
      },
    )

pub trace_is_there : TraceIsThere Together
trace_is_there = there_by Together
