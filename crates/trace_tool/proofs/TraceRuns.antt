-- Runs over cycles: the invariant of the loop over them, and the trace at its end.
use Rattle.std.proofs.Common.{◌≡◌, ℕ, ◌+◌, ◌<◌, ◌≤◌, ◌^◌, Bool, true, false, List, [], ◌∷◌, ◌++◌, length, drop, get_or, refl, sym, ap, ◌∙◌, subst, arith, append_assoc, append-nil, length-drop, IfOk, Result, Ok, Err}
use Rattle.std.proofs.lemmas.List.{drop_more}
use Rattle.deck.specs.CircuitData.{CircuitData}
use Rattle.deck.specs.declared.role.Roles.{Roles}
use Rattle.event_sim.specs.Orders.{By, Follows}
use Rattle.port_runs.specs.declared.clocking.Clocking.{Clocking}
use Rattle.trace_tool.specs.Courses.{Course, Settled, State, Unsettled}
use Rattle.trace_tool.specs.Moves.{cycle_moves, evaluation_by, power_moves}
use Rattle.trace_tool.specs.RunData.{HasCycles, IsPrinted, RunData, RunsCycle, RunsPower, power_run}
use Rattle.trace_tool.specs.TraceData.{TraceData, TraceOptionsData}
use Rattle.trace_tool.specs.TraceLines.{lines_of, power_line}
use Rattle.trace_tool.specs.Traces.{AreCycles, IsCycle, IsRun, IsTraceFrom, picked_place, power_state, row_line, setup_of}
use Rattle.trace_tool.specs.SetupData.{SetupData}
use Rattle.trace_tool.proofs.CoursesJoined.{course-by, course-fits, course-length}

pub if_ok-both : {T E : Type 0} {A B C : T → Type 0} (result : Result T E) → ((x : T) → A x → B x → C x) → IfOk result A → IfOk result B → IfOk result C
if_ok-both (Ok x) f h k = f x h k
if_ok-both (Err e) f h k = tt

abbrev trace_of : List ℕ → Bool → TraceData
trace_of text settled = record { text = text; settled = settled }

pub drop_at : {X : Type 0} (xs : List X) (n : ℕ) (x : X) → n < length xs → x ≡ get_or xs n x → drop n xs ≡ x ∷ drop (n + 1) xs
drop_at xs n x lt is = drop_more xs n x lt ∙ ap (λ y. y ∷ drop (n + 1) xs) (sym is)

pub drop_none : {X : Type 0} (n : ℕ) (xs : List X) → length xs ≤ n → drop n xs ≡ []
drop_none n xs le = none (drop n xs) (omega (arith, length-drop n xs, le))
  where
    none : {X : Type 0} (ys : List X) → length ys ≡ 0 → ys ≡ []
    none [] e = refl
    none (y ∷ ys) e = absurd (omega (arith, e))

module _ {F : Type 0} where
  -- the first cycles settled and lead to a run, and what follows makes the trace whole
  pub record HasPrefix (P : F → ℕ → ℕ → ℕ → Type 0) (s : RunData F) (cycles : List (List Bool)) (number : ℕ) (now : RunData F) : Type 0 where
    pub lines : List ℕ
    pub text_is : now.text ≡ s.text ++ lines
    pub same_setup : now.setup ≡ s.setup
    pub same_pick : now.pick ≡ s.pick
    pub goes_on : (rest : TraceData) → AreCycles (P s.pick) s.setup now.state number (drop number cycles) rest
        → AreCycles (P s.pick) s.setup s.state 0 cycles (trace_of (lines ++ rest.text) rest.settled)

  module _ (P : F → ℕ → ℕ → ℕ → Type 0) where
    pub prefix-none : (s : RunData F) (cycles : List (List Bool)) → HasPrefix P s cycles 0 s
    prefix-none s cycles = record {
      lines = [];
      text_is = sym (append-nil s.text);
      same_setup = refl;
      same_pick = refl;
      goes_on = λ rest more. more;
    }

    -- one more cycle of a run with the setup and who picks of its start
    cycle-moved : (s now : RunData F) (pins : List Bool) (course : Course) (read last : State) → now.pick ≡ s.pick → now.setup ≡ s.setup
        → IsCycle (P now.pick) now.setup now.state pins course read last → IsCycle (P s.pick) s.setup now.state pins course read last
    cycle-moved s now pins course read last pick setup h =
        subst (λ (p : F). IsCycle (P p) s.setup now.state pins course read last) pick
        (subst (λ (c : SetupData). IsCycle (P now.pick) c now.state pins course read last) setup h)

    -- the trace of one more cycle, where it settled with what follows
    cycle-traced : (s now new : RunData F) (cycles : List (List Bool)) (number : ℕ) (pins : List Bool) (course : Course) (read : State) (trace : TraceData)
        → (h : HasPrefix P s cycles number now) → drop number cycles ≡ pins ∷ drop (number + 1) cycles
        → IsCycle (P now.pick) now.setup now.state pins course read new.state
        → IsTraceFrom s.setup number (row_line s.setup number pins read) course (AreCycles (P s.pick) s.setup new.state (number + 1) (drop (number + 1) cycles)) trace
        → AreCycles (P s.pick) s.setup s.state 0 cycles (trace_of (h.lines ++ trace.text) trace.settled)
    cycle-traced s now new cycles number pins course read trace h split one from =
        h.goes_on trace
        (subst (λ (l : List (List Bool)). AreCycles (P s.pick) s.setup now.state number l trace) (sym split)
        (course, read, new.state, cycle-moved s now pins course read new.state h.same_pick h.same_setup one, from))

    -- the text after one more cycle
    text-more : (s now new : RunData F) (cycles : List (List Bool)) (number : ℕ) (pins : List Bool) (course : Course) (read : State) (settled : Bool)
        → (h : HasPrefix P s cycles number now) → IsPrinted number (row_line now.setup number pins read) course now settled new
        → new.text ≡ s.text ++ (h.lines ++ lines_of s.setup number (row_line s.setup number pins read) course)
    text-more s now new cycles number pins course read settled h printed =
        printed.text_is
        ∙ (λ i. h.text_is i ++ lines_of (h.same_setup i) number (row_line (h.same_setup i) number pins read) course)
        ∙ append_assoc s.text h.lines (lines_of s.setup number (row_line s.setup number pins read) course)

    pub prefix-more : (s now new : RunData F) (cycles : List (List Bool)) (number : ℕ) (pins : List Bool) (settled : Bool)
        → HasPrefix P s cycles number now → drop number cycles ≡ pins ∷ drop (number + 1) cycles
        → RunsCycle P number pins now settled new → settled ≡ true → HasPrefix P s cycles (number + 1) new
    prefix-more s now new cycles number pins settled h split (Unsettled events last, read, one, printed) on =
        absurd (let never : true ≡ false = sym on ∙ printed.settled_is in cc)
    prefix-more s now new cycles number pins settled h split (Settled events, read, one, printed) on =
        let lines = lines_of s.setup number (row_line s.setup number pins read) (Settled events) in
        record {
          lines = h.lines ++ lines;
          text_is = text-more s now new cycles number pins (Settled events) read settled h printed;
          same_setup = printed.same_setup ∙ h.same_setup;
          same_pick = printed.same_pick ∙ h.same_pick;
          goes_on = λ rest more.
              subst (λ (l : List ℕ). AreCycles (P s.pick) s.setup s.state 0 cycles (trace_of l rest.settled)) (sym (append_assoc h.lines lines rest.text))
              (cycle-traced s now new cycles number pins (Settled events) read (trace_of (lines ++ rest.text) rest.settled) h split one (rest, more, refl));
        }

    -- all cycles settled
    pub cycles-settled : (s now : RunData F) (cycles : List (List Bool)) (number : ℕ)
        → HasPrefix P s cycles number now → drop number cycles ≡ [] → HasCycles P s cycles true now
    cycles-settled s now cycles number h none = (
      h.lines,
      subst (λ (l : List ℕ). AreCycles (P s.pick) s.setup s.state 0 cycles (trace_of l true)) (append-nil h.lines)
          (h.goes_on (trace_of [] true) (subst (λ (l : List (List Bool)). AreCycles (P s.pick) s.setup now.state number l (trace_of [] true)) (sym none) refl)),
      h.text_is,
    )

    -- one of them did not
    pub cycles-halted : (s now new : RunData F) (cycles : List (List Bool)) (number : ℕ) (pins : List Bool) (settled : Bool)
        → HasPrefix P s cycles number now → drop number cycles ≡ pins ∷ drop (number + 1) cycles
        → RunsCycle P number pins now settled new → settled ≡ false → HasCycles P s cycles false new
    cycles-halted s now new cycles number pins settled h split (Settled events, read, one, printed) off =
        absurd (let never : true ≡ false = sym printed.settled_is ∙ off in cc)
    cycles-halted s now new cycles number pins settled h split (Unsettled events last, read, one, printed) off =
        let lines = lines_of s.setup number (row_line s.setup number pins read) (Unsettled events last) in (
          h.lines ++ lines,
          cycle-traced s now new cycles number pins (Unsettled events last) read (trace_of lines false) h split one refl,
          text-more s now new cycles number pins (Unsettled events last) read settled h printed,
        )

    -- power ended unsettled
    pub run-halted : (pick : F) (setup : SetupData) (new : RunData F) (cycles : List (List Bool)) (settled : Bool)
        → RunsPower P (power_run pick setup) settled new → settled ≡ false → IsRun (P pick) setup cycles (trace_of new.text false)
    run-halted pick setup new cycles settled (Settled events, is, printed) off = absurd (let never : true ≡ false = sym printed.settled_is ∙ off in cc)
    run-halted pick setup new cycles settled (Unsettled events last, is, printed) off =
        (Unsettled events last, new.state, is, (λ i. trace_of (printed.text_is i) false))

    -- power settled, and then the cycles were run
    pub run-through : (pick : F) (setup : SetupData) (mid new : RunData F) (cycles : List (List Bool)) (first settled : Bool)
        → RunsPower P (power_run pick setup) first mid → first ≡ true → HasCycles P mid cycles settled new → IsRun (P pick) setup cycles (trace_of new.text settled)
    run-through pick setup mid new cycles first settled (Unsettled events last, is, printed) on later =
        absurd (let never : true ≡ false = sym on ∙ printed.settled_is in cc)
    run-through pick setup mid new cycles first settled (Settled events, is, printed) on (lines, later, text) = (
      Settled events,
      mid.state,
      is,
      (
        trace_of lines settled,
        subst (λ (p : F). AreCycles (P p) setup mid.state 0 cycles (trace_of lines settled)) printed.same_pick
            (subst (λ (c : SetupData). AreCycles (P mid.pick) c mid.state 0 cycles (trace_of lines settled)) printed.same_setup later),
        (λ i. trace_of ((text ∙ ap (λ (l : List ℕ). l ++ lines) printed.text_is) i) settled),
      ),
    )

-- a trace of cycles in an order that follows a function
abbrev pub IsShort : State → Type 0
IsShort s = (s.step < 2 ^ 64) × (length s.values < 2 ^ 64)

module _ (place : ℕ → ℕ → ℕ) (order : ℕ → ℕ → ℕ → Type 0) (setup : SetupData) (follows : Follows place order) where
  trace_from-by : (cycle : ℕ) (line : ℕ → List ℕ) (course : Course) (Rest Rest' : TraceData → Type 0) (trace : TraceData)
      → ((rest : TraceData) → Rest rest → Rest' rest) → IsTraceFrom setup cycle line course Rest trace → IsTraceFrom setup cycle line course Rest' trace
  trace_from-by cycle line (Settled events) Rest Rest' trace f (rest, h, is) = (rest, f rest h, is)
  trace_from-by cycle line (Unsettled events last) Rest Rest' trace f is = is

  cycles-by : (s : State) → IsShort s → (cycle : ℕ) (cycles : List (List Bool)) (trace : TraceData)
      → AreCycles order setup s cycle cycles trace → AreCycles (By place) setup s cycle cycles trace
  cycles-by s short cycle [] trace h = h
  cycles-by s short cycle (pins ∷ more) trace (course, read, last, one, from) =
      let by : IsCycle (By place) setup s pins course read last = record {
        evaluated = one.evaluated;
        evaluation = course-by place order setup s read (evaluation_by setup.clocking setup.roles pins) one.evaluated follows short.0 short.1 one.evaluation;
        whole = course-by place order setup s last (cycle_moves setup.clocking setup.roles pins) course follows short.0 short.1 one.whole;
      } in
      let after : IsShort last = (
        course-fits order setup s last (cycle_moves setup.clocking setup.roles pins) course short.0 one.whole,
        omega (arith, short.1, course-length order setup s last (cycle_moves setup.clocking setup.roles pins) course one.whole),
      ) in (
        course,
        read,
        last,
        by,
        trace_from-by cycle (row_line setup cycle pins read) course (AreCycles order setup last (cycle + 1) more) (AreCycles (By place) setup last (cycle + 1) more) trace
            (λ rest h. cycles-by last after (cycle + 1) more rest h) from,
      )

  pub run-by : (cycles : List (List Bool)) (trace : TraceData) → length (power_state setup).values ≤ 2 ^ 26 → IsRun order setup cycles trace → IsRun (By place) setup cycles trace
  run-by cycles trace few (course, start, power, from) =
      let moves = power_moves setup.roles in
      let short : IsShort (power_state setup) = (omega arith, omega (arith, few)) in
      let after : IsShort start = (
        course-fits order setup (power_state setup) start moves course short.0 power,
        omega (arith, short.1, course-length order setup (power_state setup) start moves course power),
      ) in (
        course,
        start,
        course-by place order setup (power_state setup) start moves course follows short.0 short.1 power,
        trace_from-by 0 power_line course (AreCycles order setup start 0 cycles) (AreCycles (By place) setup start 0 cycles) trace
            (λ rest h. cycles-by start after 0 cycles rest h) from,
      )

module _ {F : Type 0} (P : F → ℕ → ℕ → ℕ → Type 0) where
  -- the trace of a run whose power settled, and of one whose power did not
  pub traced-through : (place : ℕ → ℕ → ℕ) (pick : F) (setup : SetupData) (start mid new : RunData F) (cycles : List (List Bool)) (first settled : Bool) (trace : TraceData)
      → Follows place (P pick) → start ≡ power_run pick setup → length start.state.values ≤ 2 ^ 26 → RunsPower P start first mid → first ≡ true
      → HasCycles P mid cycles settled new → trace ≡ trace_of new.text settled → IsRun (By place) setup cycles trace
  traced-through place pick setup start mid new cycles first settled trace follows is few power on later trace_is =
      subst (λ (t : TraceData). IsRun (By place) setup cycles t) (sym trace_is)
      (run-by place (P pick) setup follows cycles (trace_of new.text settled) (subst (λ (r : RunData F). length r.state.values ≤ 2 ^ 26) is few)
      (run-through P pick setup mid new cycles first settled (subst (λ (r : RunData F). RunsPower P r first mid) is power) on later))

  pub traced-halted : (place : ℕ → ℕ → ℕ) (pick : F) (setup : SetupData) (start new : RunData F) (cycles : List (List Bool)) (settled : Bool) (trace : TraceData)
      → Follows place (P pick) → start ≡ power_run pick setup → length start.state.values ≤ 2 ^ 26 → RunsPower P start settled new → settled ≡ false
      → trace ≡ trace_of new.text false → IsRun (By place) setup cycles trace
  traced-halted place pick setup start new cycles settled trace follows is few power off trace_is =
      subst (λ (t : TraceData). IsRun (By place) setup cycles t) (sym trace_is)
      (run-by place (P pick) setup follows cycles (trace_of new.text false) (subst (λ (r : RunData F). length r.state.values ≤ 2 ^ 26) is few)
      (run-halted P pick setup new cycles settled (subst (λ (r : RunData F). RunsPower P r settled new) is power) off))

-- a run with the options
pub run_is : (clocking : Clocking) (circuit : CircuitData) (roles : Roles) (read options : TraceOptionsData) (cycles items : List (List Bool)) (trace : TraceData)
    → read ≡ options → cycles ≡ items
    → IsRun (By (picked_place read.order read.seed)) (setup_of clocking circuit roles read) cycles trace
    → IsRun (By (picked_place options.order options.seed)) (setup_of clocking circuit roles options) items trace
run_is clocking circuit roles read options cycles items trace o c run =
    subst (λ (all : List (List Bool)). IsRun (By (picked_place options.order options.seed)) (setup_of clocking circuit roles options) all trace) c
    (subst (λ (x : TraceOptionsData). IsRun (By (picked_place x.order x.seed)) (setup_of clocking circuit roles x) cycles trace) o run)
