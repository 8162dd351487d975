-- Runs of moves: of one move, of moves that follow others.
use Rattle.std.proofs.Common.{◌≡◌, ℕ, ◌+◌, List, [], ◌∷◌, ◌++◌, refl, sym, ap, ◌∙◌, subst, arith, append-nil, length-append, Result, Ok, Err}
use Rattle.std.specs.Result.{IsErrAnd}
use Rattle.event_sim.specs.declared.event.Event.{Event}
use Rattle.switch_model.specs.LinksData.{links_of}
use Rattle.trace_tool.specs.Courses.{Course, IsCourse, Settled, State, Unsettled}
use Rattle.port_runs.specs.Moves.{PortValue}
use Rattle.trace_tool.specs.RunData.{Ran, RunData, Runs, Settles, course_events, with_moved}
use Rattle.trace_tool.specs.TraceLines.{event_lines}
use Rattle.trace_tool.specs.declared.halt.Halt.{Halt}
use Rattle.trace_tool.specs.declared.halt.Halt.TheVariants as halts
use Rattle.trace_tool.specs.SetupData.{SetupData}
use Rattle.trace_tool.proofs.CoursesJoined.{behind, course-after, ends-before, events_of-behind}
use Rattle.trace_tool.proofs.EventLines.{event_lines-none, text-append}

module _ {F : Type 0} (P : F → ℕ → ℕ → ℕ → Type 0) where
  -- a course in a run is one of an earlier run with the same setup and who picks
  pub course-moved : (s t : RunData F) (at to : State) (moves : List (List PortValue)) (course : Course) → t.pick ≡ s.pick → t.setup ≡ s.setup
      → IsCourse (P t.pick) t.setup at moves course to → IsCourse (P s.pick) s.setup at moves course to
  course-moved s t at to moves course pick setup h =
      subst (λ (p : F). IsCourse (P p) s.setup at moves course to) pick (subst (λ (c : SetupData). IsCourse (P t.pick) c at moves course to) setup h)

  -- moves that follow others which settled
  pub ran-more : (s t u : RunData F) (xs ys : List (List PortValue)) (d : List Event) (course : Course)
      → Ran P xs (Settled d) s t → Ran P ys course t u → Ran P (xs ++ ys) (behind d course) s u
  ran-more s t u xs ys d course h k = record {
    course_is = course-after (P s.pick) s.setup s.state t.state u.state xs ys d course h.course_is
        (course-moved s t t.state u.state ys course h.same_pick h.same_setup k.course_is);
    text_is = text-append s.setup s.text t.text u.text d (course_events course) h.text_is
        (k.text_is ∙ ap (λ (c : SetupData). t.text ++ event_lines c (course_events course)) h.same_setup)
        ∙ ap (λ (e : List Event). s.text ++ event_lines s.setup e) (sym (events_of-behind d course));
    same_setup = k.same_setup ∙ h.same_setup;
    same_pick = k.same_pick ∙ h.same_pick;
  }

  -- moves of which one ended unsettled, and others that never came
  pub ran-before : (s t : RunData F) (xs ys : List (List PortValue)) (events last : List Event)
      → Ran P xs (Unsettled events last) s t → Ran P (xs ++ ys) (Unsettled events last) s t
  ran-before s t xs ys events last h = record {
    course_is = ends-before (P s.pick) (links_of s.setup.circuit s.setup.roles) s.state t.state xs ys events last h.course_is;
    text_is = h.text_is;
    same_setup = h.same_setup;
    same_pick = h.same_pick;
  }

  -- no move
  pub runs-none : (s : RunData F) → Runs P [] s (Ok 0) s
  runs-none s = (
    [],
    record {
      course_is = (refl, refl);
      text_is = sym (ap (λ (l : List ℕ). s.text ++ l) (event_lines-none s.setup) ∙ append-nil s.text);
      same_setup = refl;
      same_pick = refl;
    },
    refl,
    omega arith,
  )

  -- a move and its settling
  pub runs-one : (s t : RunData F) (move : List PortValue) (result : Result ℕ Halt) → Settles P (with_moved s move) result t → Runs P (move ∷ []) s result t
  runs-one s t move (Ok count) (events, ends, is, counted, few) = (
    events,
    record {
      course_is = (events, [], sym (append-nil events), ends, (refl, ap (λ (r : RunData F). r.state) is));
      text_is = ap (λ (r : RunData F). r.text) is;
      same_setup = ap (λ (r : RunData F). r.setup) is;
      same_pick = ap (λ (r : RunData F). r.pick) is;
    },
    counted,
    omega (arith, few),
  )
  runs-one s t move (Err (halts.Unsettled count)) (events, ends, is, counted) = (
    events,
    events,
    record {
      course_is = record {
        before = [];
        move = move;
        never = [];
        moves_are = refl;
        earlier = [];
        state = s.state;
        leads = (refl, refl);
        unsettled = ends;
        events_are = refl;
        reached = ap (λ (r : RunData F). r.state) is;
      };
      text_is = ap (λ (r : RunData F). r.text) is;
      same_setup = ap (λ (r : RunData F). r.setup) is;
      same_pick = ap (λ (r : RunData F). r.pick) is;
    },
    counted,
  )
  runs-one s t move (Err halts.Memory) h = tt

  pub runs-set : (s r t : RunData F) (move : List PortValue) (result : Result ℕ Halt) → r ≡ with_moved s move → Settles P r result t → Runs P (move ∷ []) s result t
  runs-set s r t move result is h = runs-one s t move result (subst (λ (x : RunData F). Settles P x result t) is h)

  -- the setup is the same after moves that settled
  pub runs-setup : (s t : RunData F) (xs : List (List PortValue)) (m : ℕ) → Runs P xs s (Ok m) t → t.setup ≡ s.setup
  runs-setup s t xs m (events, h, counted, few) = h.same_setup

  -- moves that follow others
  pub runs-more : (s t u : RunData F) (xs ys : List (List PortValue)) (m n : ℕ)
      → Runs P xs s (Ok m) t → Runs P ys t (Ok n) u → Runs P (xs ++ ys) s (Ok (m + n)) u
  runs-more s t u xs ys m n (d, h, counted, few) (e, k, counted', few') = (
    d ++ e,
    ran-more s t u xs ys d (Settled e) h k,
    omega (arith, counted, counted', length-append d e),
    omega (arith, few, few', length-append xs ys),
  )

  pub runs-after : (s t u : RunData F) (xs ys : List (List PortValue)) (m : ℕ) (halt : Halt)
      → Runs P xs s (Ok m) t → Runs P ys t (Err halt) u → Runs P (xs ++ ys) s (Err halt) u
  runs-after s t u xs ys m (halts.Unsettled count) (d, h, counted, few) (e, last, k, counted') =
      (d ++ e, last, ran-more s t u xs ys d (Unsettled e last) h k, counted')
  runs-after s t u xs ys m halts.Memory h k = tt

  pub runs-before : (s t : RunData F) (xs ys : List (List PortValue)) (halt : Halt) → Runs P xs s (Err halt) t → Runs P (xs ++ ys) s (Err halt) t
  runs-before s t xs ys (halts.Unsettled count) (events, last, h, counted) = (events, last, ran-before s t xs ys events last h, counted)
  runs-before s t xs ys halts.Memory h = tt

  -- the moves are those
  pub runs-are : (s t : RunData F) (xs ys : List (List PortValue)) (result : Result ℕ Halt) → xs ≡ ys → Runs P xs s result t → Runs P ys s result t
  runs-are s t xs ys result e h = subst (λ (l : List (List PortValue)). Runs P l s result t) e h

  -- a run that halted: its result is the fault of one of its parts
  pub halted-by : (Q : Result ℕ Halt → Type 0) (halt : Halt) (result : Result ℕ Halt) → IsErrAnd result (λ e. e ≡ halt) → Q (Err halt) → Q result
  halted-by Q halt (Ok x) is h = absurd is
  halted-by Q halt (Err e) is h = subst (λ (x : Halt). Q (Err x)) (sym is) h

  pub halts-before : (s t : RunData F) (xs ys all : List (List PortValue)) (halt : Halt) (result : Result ℕ Halt)
      → xs ++ ys ≡ all → IsErrAnd result (λ e. e ≡ halt) → Runs P xs s (Err halt) t → Runs P all s result t
  halts-before s t xs ys all halt result are is h =
      halted-by (λ (r : Result ℕ Halt). Runs P all s r t) halt result is (runs-are s t (xs ++ ys) all (Err halt) are (runs-before s t xs ys halt h))

  pub halts-after : (s t u : RunData F) (xs ys all : List (List PortValue)) (m : ℕ) (halt : Halt) (result : Result ℕ Halt)
      → xs ++ ys ≡ all → IsErrAnd result (λ e. e ≡ halt) → Runs P xs s (Ok m) t → Runs P ys t (Err halt) u → Runs P all s result u
  halts-after s t u xs ys all m halt result are is h k =
      halted-by (λ (r : Result ℕ Halt). Runs P all s r u) halt result is (runs-are s u (xs ++ ys) all (Err halt) are (runs-after s t u xs ys m halt h k))

  pub runs-all : (s t u : RunData F) (xs ys all : List (List PortValue)) (m n : ℕ)
      → xs ++ ys ≡ all → Runs P xs s (Ok m) t → Runs P ys t (Ok n) u → Runs P all s (Ok (m + n)) u
  runs-all s t u xs ys all m n are h k = runs-are s u (xs ++ ys) all (Ok (m + n)) are (runs-more s t u xs ys m n h k)
