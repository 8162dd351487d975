-- One cycle of a run beside a network's.
use Rattle.std.proofs.Common.{◌≡◌, ℕ, inl, inr, Bool, List, map, drop, take, Some, slice_get, refl, sym, ap, ◌∙◌, subst, Result, Ok, Err, Option}
use Rattle.std.proofs.lemmas.Option.{same_Some}
use Rattle.std.specs.Result.{IsErrAnd}
use Rattle.dom_base.specs.declared.tri.Tri.{Tri}
use Rattle.deck.specs.PortLayout.{first_output}
use Rattle.deck.specs.Roles.{ports_of}
use Rattle.port_runs.specs.Environment.{bit}
use Rattle.trace_tool.specs.Comparisons.{ComparesReading, Decides, IsWrongAt, Passes, StopsAt}
use Rattle.trace_tool.specs.Courses.{Course, IsCourse, Settled, State, Unsettled}
use Rattle.trace_tool.specs.Moves.{evaluation_by, latching_moves}
use Rattle.trace_tool.specs.RunData.{RunData, Runs}
use Rattle.trace_tool.specs.SetupData.{SetupData}
use Rattle.trace_tool.specs.Traces.{outputs}
use Rattle.trace_tool.specs.Verdicts.{IsAfter, IsCycleVerdict, IsReadingVerdict}
use Rattle.trace_tool.specs.declared.halt.Halt.{Halt}
use Rattle.trace_tool.specs.declared.halt.Halt.TheVariants as halts
use Rattle.trace_tool.specs.declared.verdict.Verdict.{Verdict}
use Rattle.trace_tool.specs.declared.verdict.Verdict.TheVariants as verdicts
use Rattle.trace_tool.proofs.MoveRuns.{course-moved}

pub after_weaker : (cycle : ℕ) (c : Course) (Rest Rest' : Type 0) (v : Verdict) → (Rest → Rest') → IsAfter cycle c Rest v → IsAfter cycle c Rest' v
after_weaker cycle (Settled events) Rest Rest' v f x = f x
after_weaker cycle (Unsettled events last) Rest Rest' v f x = x

pub read_weaker : (setup : SetupData) (cycle : ℕ) (wanted : List Bool) (read : State) (Rest Rest' : Type 0) (v : Verdict) → (Rest → Rest')
    → IsReadingVerdict setup cycle wanted read Rest v → IsReadingVerdict setup cycle wanted read Rest' v
read_weaker setup cycle wanted read Rest Rest' v f (inl x) = inl x
read_weaker setup cycle wanted read Rest Rest' v f (inr (same, more)) = inr (same, f more)

-- the moves of the latches have a course from a reading, and what follows it is so
abbrev pub Latched : (ℕ → ℕ → ℕ → Type 0) → SetupData → ℕ → Verdict → (State → Type 0) → State → Type 0
Latched order setup cycle v G r =
    (latched : Course) × (last : State) × IsCourse order setup r (latching_moves setup.roles) latched last × IsAfter cycle latched (G last) v

-- a cycle's verdict, where more is said of what follows
pub cycle_weaker : (order : ℕ → ℕ → ℕ → Type 0) (setup : SetupData) (s : State) (cycle : ℕ) (pins wanted : List Bool) (Follows Follows' : State → Type 0) (v : Verdict)
    → ((t : State) → Follows t → Follows' t) → IsCycleVerdict order setup s cycle pins wanted Follows v → IsCycleVerdict order setup s cycle pins wanted Follows' v
cycle_weaker order setup s cycle pins wanted Follows Follows' v f (evaluated, read, is, more) = (
  evaluated,
  read,
  is,
  after_weaker cycle evaluated (IsReadingVerdict setup cycle wanted read (Latched order setup cycle v Follows read) v) (IsReadingVerdict setup cycle wanted read (Latched order setup cycle v Follows' read) v) v
      (read_weaker setup cycle wanted read (Latched order setup cycle v Follows read) (Latched order setup cycle v Follows' read) v
      (λ (latched, last, latches, rest). (latched, last, latches, after_weaker cycle latched (Follows last) (Follows' last) v (f last) rest)))
      more,
)

module _ {F : Type 0} (P : F → ℕ → ℕ → ℕ → Type 0) where
  -- the moves up to the reading ended unsettled
  pub unevaluated : (s t now : RunData F) (number : ℕ) (pins wanted : List Bool) (halt : Halt) → Runs P (evaluation_by s.setup.clocking s.setup.roles pins) s (Err halt) t
      → ComparesReading P number pins wanted s (Err halt) now
  unevaluated s t now number pins wanted (halts.Unsettled count) (events, last, ran, counted) =
      (Unsettled events last, t.state, ran.course_is, ap (λ (n : ℕ). verdicts.Unsettled number n) counted)
  unevaluated s t now number pins wanted halts.Memory ran = tt

  -- an output of the reading isn't its bit
  pub differs : (s t : RunData F) (number : ℕ) (pins wanted : List Bool) (m index : ℕ) (pin : List ℕ) (one : Bool) (value : Tri)
      → Runs P (evaluation_by s.setup.clocking s.setup.roles pins) s (Ok m) t
      → IsWrongAt wanted (outputs t.setup.roles t.state.values) index
      → slice_get (drop (first_output t.setup.roles) (ports_of t.setup.circuit)) index ≡ Some pin
      → slice_get wanted index ≡ Some one → slice_get (outputs t.setup.roles t.state.values) index ≡ Some value
      → Decides P number pins wanted s (verdicts.Differ number pin one value)
  differs s t number pins wanted m index pin one value (events, ran, counted, few) wrong pin_is one_is value_is =
      let ones : one ≡ wrong.one = same_Some _ _ (sym one_is ∙ wrong.wanted_is) in
      let values : value ≡ wrong.value = same_Some _ _ (sym value_is ∙ wrong.found_is) in (
        Settled events,
        t.state,
        ran.course_is,
        inl (
          pin,
          one,
          value,
          record {
            index = index;
            before = wrong.before ∙ ap (λ (c : SetupData). take index (outputs c.roles t.state.values)) ran.same_setup;
            pin_is = subst (λ (c : SetupData). slice_get (drop (first_output c.roles) (ports_of c.circuit)) index ≡ Some pin) ran.same_setup pin_is;
            wanted_is = one_is;
            found_is = subst (λ (c : SetupData). slice_get (outputs c.roles t.state.values) index ≡ Some value) ran.same_setup value_is;
            apart = λ same. wrong.apart (sym values ∙ same ∙ ap bit ones);
          },
          refl,
        ),
      )

  -- all outputs of the reading are their bits, and then the moves of the latches have a course
  latched : (s r : RunData F) (t : State) (number : ℕ) (pins wanted : List Bool) (m : ℕ) (course : Course) (verdict : Verdict) (Follows : State → Type 0)
      → Runs P (evaluation_by s.setup.clocking s.setup.roles pins) s (Ok m) r → outputs r.setup.roles r.state.values ≡ map bit wanted
      → IsCourse (P r.pick) r.setup r.state (latching_moves r.setup.roles) course t → IsAfter number course (Follows t) verdict
      → IsCycleVerdict (P s.pick) s.setup s.state number pins wanted Follows verdict
  latched s r t number pins wanted m course verdict Follows (events, ran, counted, few) same is after = (
    Settled events,
    r.state,
    ran.course_is,
    inr (
      subst (λ (c : SetupData). outputs c.roles r.state.values ≡ map bit wanted) ran.same_setup same,
      (
        course,
        t,
        course-moved P s r r.state t (latching_moves s.setup.roles) course ran.same_pick ran.same_setup
            (subst (λ (c : SetupData). IsCourse (P r.pick) r.setup r.state (latching_moves c.roles) course t) ran.same_setup is),
        after,
      ),
    ),
  )

  pub unlatched : (s r t : RunData F) (number : ℕ) (pins wanted : List Bool) (m : ℕ) (halt : Halt)
      → Runs P (evaluation_by s.setup.clocking s.setup.roles pins) s (Ok m) r → outputs r.setup.roles r.state.values ≡ map bit wanted
      → Runs P (latching_moves r.setup.roles) r (Err halt) t → ComparesReading P number pins wanted s (Err halt) t
  unlatched s r t number pins wanted m (halts.Unsettled count) evaluated same (events, last, ran, counted) =
      latched s r t.state number pins wanted m (Unsettled events last) (verdicts.Unsettled number count) (λ x. ⊥) evaluated same ran.course_is
      (ap (λ (n : ℕ). verdicts.Unsettled number n) counted)
  unlatched s r t number pins wanted m halts.Memory evaluated same ran = tt

  pub passes : (s r t : RunData F) (number : ℕ) (pins wanted : List Bool) (m k : ℕ)
      → Runs P (evaluation_by s.setup.clocking s.setup.roles pins) s (Ok m) r → outputs r.setup.roles r.state.values ≡ map bit wanted
      → Runs P (latching_moves r.setup.roles) r (Ok k) t → Passes P number pins wanted s t
  passes s r t number pins wanted m k (d, first, c, f) same (e, ran, counted, few) = record {
    follows = λ verdict. latched s r t.state number pins wanted m (Settled e) verdict (λ last. last ≡ t.state) (d, first, c, f) same ran.course_is refl;
    same_setup = ran.same_setup ∙ first.same_setup;
    same_pick = ran.same_pick ∙ first.same_pick;
  }

  -- a cycle that halted has its verdict
  pub stops : (s t : RunData F) (number : ℕ) (pins wanted : List Bool) (halt : Halt) (verdict : Verdict)
      → ComparesReading P number pins wanted s (Err halt) t → StopsAt number halt verdict → Decides P number pins wanted s verdict
  stops s t number pins wanted (halts.Unsettled events) verdict decides is =
      subst (Decides P number pins wanted s) (sym is) decides
  stops s t number pins wanted halts.Memory verdict decides is = absurd is

  -- a cycle that ended with the fault of one of its parts
  pub reads_by : (s t : RunData F) (number : ℕ) (pins wanted : List Bool) (halt : Halt) (result : Result (Option Verdict) Halt)
      → IsErrAnd result (λ e. e ≡ halt) → ComparesReading P number pins wanted s (Err halt) t → ComparesReading P number pins wanted s result t
  reads_by s t number pins wanted halt (Ok x) is h = absurd is
  reads_by s t number pins wanted halt (Err e) is h = subst (λ (x : Halt). ComparesReading P number pins wanted s (Err x) t) (sym is) h
