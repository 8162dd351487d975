-- Over the same cycles a circuit has one trace in each order that is a function.
use Rattle.std.proofs.Common.{◌≡◌, ℕ, ◌+◌, Bool, List, [], ◌∷◌, ◌++◌, sym, ap, ◌∙◌, subst}
use Rattle.event_sim.specs.Orders.{By}
use Rattle.trace_tool.specs.Courses.{Course, Settled, State, Unsettled}
use Rattle.trace_tool.specs.Laws.{TraceIsOne}
use Rattle.trace_tool.specs.Moves.{cycle_moves, evaluation_by, power_moves}
use Rattle.trace_tool.specs.TraceData.{TraceData}
use Rattle.trace_tool.specs.TraceLines.{lines_of, power_line}
use Rattle.trace_tool.specs.Traces.{AreCycles, IsCycle, IsTraceFrom, power_state, row_line}
use Rattle.trace_tool.specs.SetupData.{SetupData}
use Rattle.trace_tool.proofs.OneCourse.{course_is_one}

-- two cycles with the same pins from one state have one course, are read in one state and end in one
cycle_is_one : (place : ℕ → ℕ → ℕ) (setup : SetupData) (s : State) (pins : List Bool) (c d : Course) (read last read' last' : State)
    → IsCycle (By place) setup s pins c read last → IsCycle (By place) setup s pins d read' last' → (c ≡ d) × (read ≡ read') × (last ≡ last')
cycle_is_one place setup s pins c d read last read' last' x y =
    let half = course_is_one place setup s (evaluation_by setup.clocking setup.roles pins) x.evaluated y.evaluated read read' x.evaluation y.evaluation in
    let all = course_is_one place setup s (cycle_moves setup.clocking setup.roles pins) c d last last' x.whole y.whole in
    (all.0, half.1, all.1)

-- two traces that begin with one course are the same where what follows is
trace_from_same : (setup : SetupData) (cycle : ℕ) (line : ℕ → List ℕ) (course : Course) (Rest : TraceData → Type 0) (a b : TraceData)
    → ((p q : TraceData) → Rest p → Rest q → p ≡ q) → IsTraceFrom setup cycle line course Rest a → IsTraceFrom setup cycle line course Rest b → a ≡ b
trace_from_same setup cycle line (Settled events) Rest a b one (rest, h, is) (rest', h', is') =
    is
    ∙ ap (λ (t : TraceData). record { text = lines_of setup cycle line (Settled events) ++ t.text; settled = t.settled }) (one rest rest' h h')
    ∙ sym is'
trace_from_same setup cycle line (Unsettled events last) Rest a b one is is' = is ∙ sym is'

cycles_are_one : (place : ℕ → ℕ → ℕ) (setup : SetupData) (s : State) (cycle : ℕ) (cycles : List (List Bool)) (a b : TraceData)
    → AreCycles (By place) setup s cycle cycles a → AreCycles (By place) setup s cycle cycles b → a ≡ b
cycles_are_one place setup s cycle [] a b x y = x ∙ sym y
cycles_are_one place setup s cycle (pins ∷ more) a b (c, read, last, one, from) (d, read', last', one', from') =
    let same = cycle_is_one place setup s pins c d read last read' last' one one' in
    trace_from_same setup cycle (row_line setup cycle pins read) c (AreCycles (By place) setup last (cycle + 1) more) a b
    (λ p q. cycles_are_one place setup last (cycle + 1) more p q)
    from
    (subst (λ (k : Course). IsTraceFrom setup cycle (row_line setup cycle pins read) k (AreCycles (By place) setup last (cycle + 1) more) b) (sym same.0)
    (subst (λ (r : State). IsTraceFrom setup cycle (row_line setup cycle pins r) d (AreCycles (By place) setup last (cycle + 1) more) b) (sym same.1)
    (subst (λ (t : State). IsTraceFrom setup cycle (row_line setup cycle pins read') d (AreCycles (By place) setup t (cycle + 1) more) b) (sym same.2) from')))

pub trace_is_one : TraceIsOne
trace_is_one place setup cycles a b (c, start, power, from) (d, start', power', from') =
    let same = course_is_one place setup (power_state setup) (power_moves setup.roles) c d start start' power power' in
    trace_from_same setup 0 power_line c (AreCycles (By place) setup start 0 cycles) a b (λ p q. cycles_are_one place setup start 0 cycles p q)
    from
    (subst (λ (k : Course). IsTraceFrom setup 0 power_line k (AreCycles (By place) setup start 0 cycles) b) (sym same.0)
    (subst (λ (t : State). IsTraceFrom setup 0 power_line d (AreCycles (By place) setup t 0 cycles) b) (sym same.1) from'))
