-- Courses of moves: those that follow others, and the courses of an order that follows a function.
use Rattle.std.proofs.Common.{◌≡◌, ℕ, ◌<◌, ◌^◌, List, [], ◌∷◌, ◌++◌, length, refl, sym, ap, ◌∙◌, subst, arith, append_assoc}
use Rattle.switch_model.specs.LinksData.{LinksData, links_of}
use Rattle.event_sim.specs.declared.event.Event.{Event}
use Rattle.event_sim.specs.declared.event.Settled.TheVariants as answers
use Rattle.event_sim.specs.Orders.{By, Follows}
use Rattle.event_sim.proofs.EventChains.{length-values_after}
use Rattle.event_sim.proofs.FollowedOrders.{settling_by}
use Rattle.trace_tool.specs.Courses.{Course, EndsWithin, IsCourse, LeadsTo, Settled, State, Unsettled, after, moved}
use Rattle.port_runs.specs.Moves.{PortValue}
use Rattle.trace_tool.specs.RunData.{course_events}
use Rattle.trace_tool.specs.SetupData.{SetupData}
use Rattle.port_runs.proofs.RunOrder.{length-set_all}
use Rattle.trace_tool.proofs.SetupNets.{step_after-fits}

-- a course with the events of earlier moves before its own
abbrev pub behind : List Event → Course → Course
behind first (Settled events) = Settled (first ++ events)
behind first (Unsettled events last) = Unsettled (first ++ events) last

pub events_of-behind : (first : List Event) (course : Course) → course_events (behind first course) ≡ first ++ course_events course
events_of-behind first (Settled events) = refl
events_of-behind first (Unsettled events last) = refl

module _ (order : ℕ → ℕ → ℕ → Type 0) (links : LinksData) where
  -- moves that follow others
  pub leads-append : (s t u : State) (xs ys : List (List PortValue)) (d e : List Event)
      → LeadsTo order links s xs d t → LeadsTo order links t ys e u → LeadsTo order links s (xs ++ ys) (d ++ e) u
  leads-append s t u [] ys d e (none, same) more =
      subst (λ (l : List Event). LeadsTo order links s ys (l ++ e) u) (sym none) (subst (λ (r : State). LeadsTo order links r ys e u) same more)
  leads-append s t u (x ∷ xs) ys d e (first, rest, is, ends, later) more =
      (first, rest ++ e, ap (λ (l : List Event). l ++ e) is ∙ append_assoc first rest e, ends, leads-append (after (moved s x) first) t u xs ys rest e later more)

  pub ends-before : (s t : State) (xs ys : List (List PortValue)) (events last : List Event) → EndsWithin order links s xs events last t → EndsWithin order links s (xs ++ ys) events last t
  ends-before s t xs ys events last h = record {
    before = h.before;
    move = h.move;
    never = h.never ++ ys;
    moves_are = ap (λ (l : List (List PortValue)). l ++ ys) h.moves_are ∙ append_assoc h.before (h.move ∷ h.never) ys;
    earlier = h.earlier;
    state = h.state;
    leads = h.leads;
    unsettled = h.unsettled;
    events_are = h.events_are;
    reached = h.reached;
  }

  pub ends-after : (s t u : State) (xs ys : List (List PortValue)) (d e last : List Event)
      → LeadsTo order links s xs d t → EndsWithin order links t ys e last u → EndsWithin order links s (xs ++ ys) (d ++ e) last u
  ends-after s t u xs ys d e last leads h = record {
    before = xs ++ h.before;
    move = h.move;
    never = h.never;
    moves_are = ap (λ (l : List (List PortValue)). xs ++ l) h.moves_are ∙ sym (append_assoc xs h.before (h.move ∷ h.never));
    earlier = d ++ h.earlier;
    state = h.state;
    leads = leads-append s t h.state xs h.before d h.earlier leads h.leads;
    unsettled = h.unsettled;
    events_are = ap (λ (l : List Event). d ++ l) h.events_are ∙ sym (append_assoc d h.earlier last);
    reached = h.reached;
  }

  pub leads-fits : (s t : State) (moves : List (List PortValue)) (events : List Event) → s.step < 2 ^ 64 → LeadsTo order links s moves events t → t.step < 2 ^ 64
  leads-fits s t [] events fits (none, same) = subst (λ (r : State). r.step < 2 ^ 64) (sym same) fits
  leads-fits s t (x ∷ xs) events fits (first, rest, is, ends, later) =
      leads-fits (after (moved s x) first) t xs rest (step_after-fits s.step first fits) later

  pub leads-length : (s t : State) (moves : List (List PortValue)) (events : List Event) → LeadsTo order links s moves events t → length t.values ≡ length s.values
  leads-length s t [] events (none, same) = ap (λ (r : State). length r.values) same
  leads-length s t (x ∷ xs) events (first, rest, is, ends, later) =
      leads-length (after (moved s x) first) t xs rest later ∙ length-values_after (moved s x).values first ∙ length-set_all s.values x

  -- where the order follows a function
  pub leads-by : (place : ℕ → ℕ → ℕ) (s t : State) (moves : List (List PortValue)) (events : List Event)
      → Follows place order → s.step < 2 ^ 64 → length s.values < 2 ^ 64 → LeadsTo order links s moves events t → LeadsTo (By place) links s moves events t
  leads-by place s t [] events follows fits few leads = leads
  leads-by place s t (x ∷ xs) events follows fits few (first, rest, is, ends, later) =
      let set : length (moved s x).values < 2 ^ 64 = omega (arith, few, length-set_all s.values x) in (
        first,
        rest,
        is,
        (settling_by place order links (moved s x).values s.step first (answers.Rest (length first)) follows fits set (ends, refl)).0,
        leads-by place (after (moved s x) first) t xs rest follows (step_after-fits s.step first fits) (omega (arith, set, length-values_after (moved s x).values first)) later,
      )

  pub ends-by : (place : ℕ → ℕ → ℕ) (s t : State) (moves : List (List PortValue)) (events last : List Event)
      → Follows place order → s.step < 2 ^ 64 → length s.values < 2 ^ 64 → EndsWithin order links s moves events last t → EndsWithin (By place) links s moves events last t
  ends-by place s t moves events last follows fits few h =
      let now : h.state.step < 2 ^ 64 = leads-fits s h.state h.before h.earlier fits h.leads in
      let set : length (moved h.state h.move).values < 2 ^ 64 = omega (arith, few, leads-length s h.state h.before h.earlier h.leads, length-set_all h.state.values h.move) in
      record {
        before = h.before;
        move = h.move;
        never = h.never;
        moves_are = h.moves_are;
        earlier = h.earlier;
        state = h.state;
        leads = leads-by place s h.state h.before h.earlier follows fits few h.leads;
        unsettled = (settling_by place order links (moved h.state h.move).values h.state.step last (answers.Unsettled (length last)) follows now set (h.unsettled, refl)).0;
        events_are = h.events_are;
        reached = h.reached;
      }

-- moves that follow others which settled
pub course-after : (order : ℕ → ℕ → ℕ → Type 0) (setup : SetupData) (s t u : State) (xs ys : List (List PortValue)) (d : List Event) (course : Course)
    → IsCourse order setup s xs (Settled d) t → IsCourse order setup t ys course u → IsCourse order setup s (xs ++ ys) (behind d course) u
course-after order setup s t u xs ys d (Settled events) leads more = leads-append order (links_of setup.circuit setup.roles) s t u xs ys d events leads more
course-after order setup s t u xs ys d (Unsettled events last) leads more = ends-after order (links_of setup.circuit setup.roles) s t u xs ys d events last leads more

-- the first move settles, and the others have a course from there
pub course-first : (order : ℕ → ℕ → ℕ → Type 0) (setup : SetupData) (s t : State) (move : List PortValue) (moves : List (List PortValue)) (first : List Event) (course : Course)
    → IsCourse order setup s (move ∷ []) (Settled first) (after (moved s move) first) → IsCourse order setup (after (moved s move) first) moves course t
    → IsCourse order setup s (move ∷ moves) (behind first course) t
course-first order setup s t move moves first course is more =
    course-after order setup s (after (moved s move) first) t (move ∷ []) moves first course is more

pub course-fits : (order : ℕ → ℕ → ℕ → Type 0) (setup : SetupData) (s t : State) (moves : List (List PortValue)) (course : Course)
    → s.step < 2 ^ 64 → IsCourse order setup s moves course t → t.step < 2 ^ 64
course-fits order setup s t moves (Settled events) fits is = leads-fits order (links_of setup.circuit setup.roles) s t moves events fits is
course-fits order setup s t moves (Unsettled events last) fits is =
    let now : is.state.step < 2 ^ 64 = leads-fits order (links_of setup.circuit setup.roles) s is.state is.before is.earlier fits is.leads in
    subst (λ (r : State). r.step < 2 ^ 64) (sym is.reached) (step_after-fits is.state.step last now)

pub course-length : (order : ℕ → ℕ → ℕ → Type 0) (setup : SetupData) (s t : State) (moves : List (List PortValue)) (course : Course)
    → IsCourse order setup s moves course t → length t.values ≡ length s.values
course-length order setup s t moves (Settled events) is = leads-length order (links_of setup.circuit setup.roles) s t moves events is
course-length order setup s t moves (Unsettled events last) is =
    ap (λ (r : State). length r.values) is.reached ∙ length-values_after (moved is.state is.move).values last ∙ length-set_all is.state.values is.move
    ∙ leads-length order (links_of setup.circuit setup.roles) s is.state is.before is.earlier is.leads

-- where the order follows a function
pub course-by : (place : ℕ → ℕ → ℕ) (order : ℕ → ℕ → ℕ → Type 0) (setup : SetupData) (s t : State) (moves : List (List PortValue)) (course : Course)
    → Follows place order → s.step < 2 ^ 64 → length s.values < 2 ^ 64 → IsCourse order setup s moves course t → IsCourse (By place) setup s moves course t
course-by place order setup s t moves (Settled events) follows fits few is =
    leads-by order (links_of setup.circuit setup.roles) place s t moves events follows fits few is
course-by place order setup s t moves (Unsettled events last) follows fits few is =
    ends-by order (links_of setup.circuit setup.roles) place s t moves events last follows fits few is
