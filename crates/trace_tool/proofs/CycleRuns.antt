-- Runs of power and of a cycle, with their lines.
use Rattle.std.proofs.Common.{◌≡◌, ℕ, ◌+◌, Bool, true, false, List, ◌++◌, Some, length, refl, sym, ap, ◌∙◌, subst, length-append, Result, Ok, Err}
use Rattle.std.specs.Result.{IsErrAnd}
use Rattle.event_sim.specs.declared.event.Event.{Event}
use Rattle.stim_text.specs.CycleLines.{cycle_line}
use Rattle.stim_text.specs.CycleRowData.{CycleRowData}
use Rattle.trace_tool.specs.Courses.{IsCourse, Settled, State, Unsettled}
use Rattle.port_runs.specs.Moves.{PortValue}
use Rattle.trace_tool.specs.Moves.{cycle_moves, evaluation_by, latching_moves, power_moves}
use Rattle.trace_tool.specs.RunData.{EndsCycle, HaltsCycle, IsHalted, IsPrinted, Ran, RunData, Runs, RunsCycle, RunsPower, with_line}
use Rattle.trace_tool.specs.TraceLines.{event_lines, power_line, unsettled_line}
use Rattle.trace_tool.specs.Traces.{outputs, row_line}
use Rattle.trace_tool.specs.declared.halt.Halt.{Halt}
use Rattle.trace_tool.specs.declared.halt.Halt.TheVariants as halts
use Rattle.trace_tool.specs.SetupData.{SetupData}
use Rattle.trace_tool.proofs.EventLines.{piece}
use Rattle.trace_tool.proofs.MoveRuns.{ran-before, ran-more}

module _ {F : Type 0} (P : F → ℕ → ℕ → ℕ → Type 0) where
  -- moves that settled, with a line of their own for the number of events
  printed-settled : (s t now : RunData F) (moves : List (List PortValue)) (events : List Event) (cycle : ℕ) (line : ℕ → List ℕ)
      → Ran P moves (Settled events) s t → now ≡ with_line t (line (length events)) → IsPrinted cycle line (Settled events) s true now
  printed-settled s t now moves events cycle line h is = record {
    settled_is = refl;
    text_is = piece s.text t.text now.text (event_lines s.setup events) (line (length events)) h.text_is (ap (λ (r : RunData F). r.text) is);
    same_setup = ap (λ (r : RunData F). r.setup) is ∙ h.same_setup;
    same_pick = ap (λ (r : RunData F). r.pick) is ∙ h.same_pick;
  }

  -- moves of which one ended unsettled, with the line that says so
  printed-halted : (s t now : RunData F) (moves : List (List PortValue)) (events last : List Event) (cycle count : ℕ) (settled : Bool) (line : ℕ → List ℕ)
      → Ran P moves (Unsettled events last) s t → count ≡ length last → now ≡ with_line t (unsettled_line cycle count) → settled ≡ false
      → IsPrinted cycle line (Unsettled events last) s settled now
  printed-halted s t now moves events last cycle count settled line h counted is off = record {
    settled_is = off;
    text_is = piece s.text t.text now.text (event_lines s.setup events) (unsettled_line cycle (length last)) h.text_is
        (ap (λ (r : RunData F). r.text) is ∙ ap (λ (n : ℕ). t.text ++ unsettled_line cycle n) counted);
    same_setup = ap (λ (r : RunData F). r.setup) is ∙ h.same_setup;
    same_pick = ap (λ (r : RunData F). r.pick) is ∙ h.same_pick;
  }

  pub power-settled : (s t now : RunData F) (count : ℕ)
      → Runs P (power_moves s.setup.roles) s (Ok count) t → now ≡ with_line t (power_line count) → RunsPower P s true now
  power-settled s t now count (events, h, counted, few) is = (
    Settled events,
    subst (λ (x : State). IsCourse (P s.pick) s.setup s.state (power_moves s.setup.roles) (Settled events) x) (sym (ap (λ (r : RunData F). r.state) is)) h.course_is,
    printed-settled s t now (power_moves s.setup.roles) events 0 power_line h (is ∙ ap (λ (n : ℕ). with_line t (power_line n)) counted),
  )

  pub power-halted : (s t now : RunData F) (halt : Halt) (settled : Bool)
      → Runs P (power_moves s.setup.roles) s (Err halt) t → IsHalted 0 halt t now → settled ≡ false → RunsPower P s settled now
  power-halted s t now (halts.Unsettled count) settled (events, last, h, counted) is off = (
    Unsettled events last,
    subst (λ (x : State). IsCourse (P s.pick) s.setup s.state (power_moves s.setup.roles) (Unsettled events last) x) (sym (ap (λ (r : RunData F). r.state) is)) h.course_is,
    printed-halted s t now (power_moves s.setup.roles) events last 0 count settled power_line h counted is off,
  )
  power-halted s t now halts.Memory settled h is off = absurd is

  -- a cycle whose two halves settled
  pub cycle-settled : (s r t now : RunData F) (cycle : ℕ) (pins : List Bool) (row : CycleRowData) (m n : ℕ)
      → Runs P (evaluation_by s.setup.clocking s.setup.roles pins) s (Ok m) r → Runs P (latching_moves r.setup.roles) r (Ok n) t → now ≡ with_line t (cycle_line row)
      → row ≡ record { cycle = cycle; pins = pins; outs = outputs r.setup.roles r.state.values; events = Some (m + n) }
      → RunsCycle P cycle pins s true now
  cycle-settled s r t now cycle pins row m n (d, h, counted, few) (e, k, counted', few') is row_is =
      let moves = ap (λ (c : SetupData). latching_moves c.roles) h.same_setup in
      let all = ran-more P s r t (evaluation_by s.setup.clocking s.setup.roles pins) (latching_moves s.setup.roles) d (Settled e) h
      (subst (λ (l : List (List PortValue)). Ran P l (Settled e) r t) moves k) in
      let number : m + n ≡ length (d ++ e) = (λ i. counted i + counted' i) ∙ sym (length-append d e) in
      let line : cycle_line row ≡ row_line s.setup cycle pins r.state (length (d ++ e)) =
      ap cycle_line row_is
      ∙ (λ i. cycle_line (record { cycle = cycle; pins = pins; outs = outputs (h.same_setup i).roles r.state.values; events = Some (number i) })) in (
        Settled (d ++ e),
        r.state,
        record {
          evaluated = Settled d;
          evaluation = h.course_is;
          whole = subst (λ (x : State). IsCourse (P s.pick) s.setup s.state (cycle_moves s.setup.clocking s.setup.roles pins) (Settled (d ++ e)) x)
              (sym (ap (λ (x : RunData F). x.state) is)) all.course_is;
        },
        printed-settled s t now (cycle_moves s.setup.clocking s.setup.roles pins) (d ++ e) cycle (row_line s.setup cycle pins r.state) all
            (is ∙ ap (λ (l : List ℕ). with_line t l) line),
      )

  -- a cycle that ended unsettled before its reading, and behind it
  pub cycle-unread : (s t : RunData F) (pins : List Bool) (halt : Halt)
      → Runs P (evaluation_by s.setup.clocking s.setup.roles pins) s (Err halt) t → HaltsCycle P pins s halt t
  cycle-unread s t pins (halts.Unsettled count) (events, last, h, counted) = (
    events,
    last,
    Unsettled events last,
    t.state,
    h.course_is,
    ran-before P s t (evaluation_by s.setup.clocking s.setup.roles pins) (latching_moves s.setup.roles) events last h,
    counted,
  )
  cycle-unread s t pins halts.Memory h = tt

  pub cycle-read : (s r t : RunData F) (pins : List Bool) (m : ℕ) (halt : Halt)
      → Runs P (evaluation_by s.setup.clocking s.setup.roles pins) s (Ok m) r → Runs P (latching_moves r.setup.roles) r (Err halt) t
      → HaltsCycle P pins s halt t
  cycle-read s r t pins m (halts.Unsettled count) (d, h, counted, few) (e, last, k, counted') = (
    d ++ e,
    last,
    Settled d,
    r.state,
    h.course_is,
    ran-more P s r t (evaluation_by s.setup.clocking s.setup.roles pins) (latching_moves s.setup.roles) d (Unsettled e last) h
        (subst (λ (l : List (List PortValue)). Ran P l (Unsettled e last) r t) (ap (λ (c : SetupData). latching_moves c.roles) h.same_setup) k),
    counted',
  )
  cycle-read s r t pins m halts.Memory h k = tt

  pub cycle-halted : (s t now : RunData F) (cycle : ℕ) (pins : List Bool) (halt : Halt) (settled : Bool)
      → HaltsCycle P pins s halt t → IsHalted cycle halt t now → settled ≡ false → RunsCycle P cycle pins s settled now
  cycle-halted s t now cycle pins (halts.Unsettled count) settled (events, last, evaluated, read, half, h, counted) is off = (
    Unsettled events last,
    read,
    record {
      evaluated = evaluated;
      evaluation = half;
      whole = subst (λ (x : State). IsCourse (P s.pick) s.setup s.state (cycle_moves s.setup.clocking s.setup.roles pins) (Unsettled events last) x)
          (sym (ap (λ (r : RunData F). r.state) is)) h.course_is;
    },
    printed-halted s t now (cycle_moves s.setup.clocking s.setup.roles pins) events last cycle count settled (row_line s.setup cycle pins read) h counted is off,
  )
  cycle-halted s t now cycle pins halts.Memory settled h is off = absurd is

  -- a cycle that ended with the fault of one of its parts
  pub ended-by : {T : Type 0} (s t : RunData F) (cycle : ℕ) (pins : List Bool) (halt : Halt) (result : Result T Halt)
      → IsErrAnd result (λ e. e ≡ halt) → HaltsCycle P pins s halt t → EndsCycle {T = T} P cycle pins s result t
  ended-by s t cycle pins halt (Ok x) is h = absurd is
  ended-by s t cycle pins halt (Err e) is h = subst (λ (x : Halt). HaltsCycle P pins s x t) (sym is) h
