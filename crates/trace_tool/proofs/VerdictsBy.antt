-- The verdict of a run in an order that follows a function is the verdict in the order of the function.
use Rattle.std.proofs.Common.{◌≡◌, ℕ, ◌+◌, ◌≤◌, ◌^◌, Bool, List, [], ◌∷◌, length, sym, ap, ◌∙◌, subst, arith, Ok, Err}
use Rattle.event_sim.specs.Orders.{By, Follows}
use Rattle.network.specs.NetworkData.{NetworkData}
use Rattle.net_run.specs.RunnerData.{RunnerData, RunsNetwork}
use Rattle.net_run.specs.Runs.{Cycle, IsNetworkRun, IsNetworkRunFrom, start}
use Rattle.port_runs.specs.Moves.{PortValue}
use Rattle.trace_tool.specs.Comparisons.{ComparesAll, StopsAt}
use Rattle.trace_tool.specs.Courses.{Course, IsCourse, Settled, State, Unsettled}
use Rattle.trace_tool.specs.Moves.{evaluation_by, latching_moves, power_moves}
use Rattle.trace_tool.specs.RunData.{RunData, Runs, power_run}
use Rattle.trace_tool.specs.SetupData.{SetupData}
use Rattle.trace_tool.specs.Traces.{power_state}
use Rattle.trace_tool.specs.Verdicts.{IsCycleVerdict, IsReadingVerdict, IsRunVerdict, IsVerdictFrom}
use Rattle.trace_tool.specs.declared.halt.Halt.{Halt}
use Rattle.trace_tool.specs.declared.halt.Halt.TheVariants as halts
use Rattle.trace_tool.specs.declared.verdict.Verdict.{Verdict}
use Rattle.trace_tool.specs.declared.verdict.Verdict.TheVariants as verdicts
use Rattle.trace_tool.proofs.ComparedCycles.{Latched, after_weaker, read_weaker}
use Rattle.trace_tool.proofs.CoursesJoined.{course-by, course-fits, course-length}
use Rattle.trace_tool.proofs.TraceRuns.{IsShort}

module _ (place : ℕ → ℕ → ℕ) (order : ℕ → ℕ → ℕ → Type 0) (setup : SetupData) (follows : Follows place order) where
  short_after : (s t : State) (moves : List (List PortValue)) (course : Course) → IsShort s → IsCourse order setup s moves course t → IsShort t
  short_after s t moves course short is = (
    course-fits order setup s t moves course short.0 is,
    omega (arith, short.1, course-length order setup s t moves course is),
  )

  by_course : (s t : State) (moves : List (List PortValue)) (course : Course) → IsShort s → IsCourse order setup s moves course t → IsCourse (By place) setup s moves course t
  by_course s t moves course short is = course-by place order setup s t moves course follows short.0 short.1 is

  cycle-by : (s : State) → IsShort s → (cycle : ℕ) (pins wanted : List Bool) (Rest Rest' : State → Type 0) (v : Verdict)
      → ((t : State) → IsShort t → Rest t → Rest' t)
      → IsCycleVerdict order setup s cycle pins wanted Rest v → IsCycleVerdict (By place) setup s cycle pins wanted Rest' v
  cycle-by s short cycle pins wanted Rest Rest' v f (evaluated, read, is, more) =
      let half = short_after s read (evaluation_by setup.clocking setup.roles pins) evaluated short is in (
        evaluated,
        read,
        by_course s read (evaluation_by setup.clocking setup.roles pins) evaluated short is,
        after_weaker cycle evaluated (IsReadingVerdict setup cycle wanted read (Latched order setup cycle v Rest read) v) (IsReadingVerdict setup cycle wanted read (Latched (By place) setup cycle v Rest' read) v) v
            (read_weaker setup cycle wanted read (Latched order setup cycle v Rest read) (Latched (By place) setup cycle v Rest' read) v
            (λ (latched, last, latches, rest). (
              latched,
              last,
              by_course read last (latching_moves setup.roles) latched half latches,
              after_weaker cycle latched (Rest last) (Rest' last) v (f last (short_after read last (latching_moves setup.roles) latched half latches)) rest,
            )))
            more,
      )

  from-by : (s : State) → IsShort s → (cycle : ℕ) (stream : List (List Bool)) (cycles : List Cycle) (v : Verdict)
      → IsVerdictFrom order setup s cycle stream cycles v → IsVerdictFrom (By place) setup s cycle stream cycles v
  from-by s short cycle [] [] v h = h
  from-by s short cycle [] (c ∷ cs) v h = absurd h
  from-by s short cycle (p ∷ ps) [] v h = absurd h
  from-by s short cycle (p ∷ ps) (c ∷ cs) v h =
      cycle-by s short cycle p c.outputs (λ t. IsVerdictFrom order setup t (cycle + 1) ps cs v) (λ t. IsVerdictFrom (By place) setup t (cycle + 1) ps cs v) v
      (λ t fits more. from-by t fits (cycle + 1) ps cs v more) h

  pub verdict-by : (stream : List (List Bool)) (cycles : List Cycle) (v : Verdict) → length (power_state setup).values ≤ 2 ^ 26
      → IsRunVerdict order setup stream cycles v → IsRunVerdict (By place) setup stream cycles v
  verdict-by stream cycles v few (powered, start, is, more) =
      let short : IsShort (power_state setup) = (omega arith, omega (arith, few)) in (
        powered,
        start,
        by_course (power_state setup) start (power_moves setup.roles) powered short is,
        after_weaker 0 powered (IsVerdictFrom order setup start 0 stream cycles v) (IsVerdictFrom (By place) setup start 0 stream cycles v) v
            (λ h. from-by start (short_after (power_state setup) start (power_moves setup.roles) powered short is) 0 stream cycles v h) more,
      )

module _ {F : Type 0} (P : F → ℕ → ℕ → ℕ → Type 0) where
  -- power settled, and then the cycles were compared
  pub compared-through : (place : ℕ → ℕ → ℕ) (pick : F) (setup : SetupData) (begin mid : RunData F) (n : NetworkData) (runner : RunnerData) (stream : List (List Bool)) (cycles : List Cycle) (m : ℕ) (v : Verdict)
      → Follows place (P pick) → begin ≡ power_run pick setup → length begin.state.values ≤ 2 ^ 26
      → RunsNetwork n runner → runner.state ≡ start n → IsNetworkRun n stream cycles
      → Runs P (power_moves begin.setup.roles) begin (Ok m) mid → ComparesAll P mid runner stream v
      → IsRunVerdict (By place) setup stream cycles v
  compared-through place pick setup begin mid n runner stream cycles m v follows is few runs at_start run powered all =
      verdict-by place (P pick) setup follows stream cycles v (subst (λ (r : RunData F). length r.state.values ≤ 2 ^ 26) is few)
      (through mid all (subst (λ (r : RunData F). Runs P (power_moves r.setup.roles) r (Ok m) mid) is powered))
    where
      through : (mid : RunData F) → ComparesAll P mid runner stream v → Runs P (power_moves setup.roles) (power_run pick setup) (Ok m) mid → IsRunVerdict (P pick) setup stream cycles v
      through mid all (events, ran, counted, fits) = (
        Settled events,
        mid.state,
        ran.course_is,
        subst (λ (p : F). IsVerdictFrom (P p) setup mid.state 0 stream cycles v) ran.same_pick
            (subst (λ (c : SetupData). IsVerdictFrom (P mid.pick) c mid.state 0 stream cycles v) ran.same_setup
            (all n cycles runs (subst (λ (s : List Bool). IsNetworkRunFrom n s stream cycles) (sym at_start) run))),
      )

  -- power ended unsettled
  pub compared-stopped : (place : ℕ → ℕ → ℕ) (pick : F) (setup : SetupData) (begin mid : RunData F) (stream : List (List Bool)) (cycles : List Cycle) (halt : Halt) (v : Verdict)
      → Follows place (P pick) → begin ≡ power_run pick setup → length begin.state.values ≤ 2 ^ 26
      → Runs P (power_moves begin.setup.roles) begin (Err halt) mid → StopsAt 0 halt v
      → IsRunVerdict (By place) setup stream cycles v
  compared-stopped place pick setup begin mid stream cycles halt v follows is few powered stopped =
      verdict-by place (P pick) setup follows stream cycles v (subst (λ (r : RunData F). length r.state.values ≤ 2 ^ 26) is few)
      (stops halt stopped (subst (λ (r : RunData F). Runs P (power_moves r.setup.roles) r (Err halt) mid) is powered))
    where
      stops : (halt : Halt) → StopsAt 0 halt v → Runs P (power_moves setup.roles) (power_run pick setup) (Err halt) mid → IsRunVerdict (P pick) setup stream cycles v
      stops (halts.Unsettled count) stopped (events, last, ran, counted) =
          (Unsettled events last, mid.state, ran.course_is, stopped ∙ ap (λ (k : ℕ). verdicts.Unsettled 0 k) counted)
      stops halts.Memory stopped ran = absurd stopped
