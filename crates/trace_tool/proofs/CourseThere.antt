-- In an order that is a function and answers below the count moves have a course.
use Rattle.std.proofs.Common.{ℕ, List, [], ◌∷◌, refl, sym, append-nil}
use Rattle.event_sim.specs.declared.event.Event.{Event}
use Rattle.event_sim.specs.declared.event.Settled.{Settled as Answer}
use Rattle.event_sim.specs.declared.event.Settled.TheVariants as answers
use Rattle.event_sim.specs.Laws.{IsBelow}
use Rattle.event_sim.specs.Orders.{By}
use Rattle.event_sim.specs.Settling.{IsSettling}
use Rattle.event_sim.proofs.SettlingThere.{settling_there}
use Rattle.switch_model.specs.LinksData.{links_of}
use Rattle.trace_tool.specs.Courses.{Course, IsCourse, Settled, State, Unsettled, after, moved}
use Rattle.port_runs.specs.Moves.{PortValue}
use Rattle.trace_tool.specs.SetupData.{SetupData}
use Rattle.trace_tool.proofs.CoursesJoined.{behind, course-first}

-- the moves have a course
abbrev pub HasCourse : (ℕ → ℕ → ℕ) → SetupData → State → List (List PortValue) → Type 0
HasCourse place setup s moves = (course : Course) × (t : State) × IsCourse (By place) setup s moves course t

-- the first move has a settling, and from where it leads the others have a course
course-on : (place : ℕ → ℕ → ℕ) (setup : SetupData) (s : State) (move : List PortValue) (moves : List (List PortValue)) (events : List Event) (answer : Answer)
    → IsSettling (By place) (links_of setup.circuit setup.roles) (moved s move).values s.step events answer
    → HasCourse place setup (after (moved s move) events) moves → HasCourse place setup s (move ∷ moves)
course-on place setup s move moves events (answers.Rest k) is (course, t, more) = (
  behind events course,
  t,
  course-first (By place) setup s t move moves events course (events, [], sym (append-nil events), is.0, (refl, refl)) more,
)
course-on place setup s move moves events (answers.Unsettled k) is later = (
  Unsettled events events,
  after (moved s move) events,
  record {
    before = [];
    move = move;
    never = moves;
    moves_are = refl;
    earlier = [];
    state = s;
    leads = (refl, refl);
    unsettled = is.0;
    events_are = refl;
    reached = refl;
  },
)

pub course_is_there : (place : ℕ → ℕ → ℕ) (setup : SetupData) → IsBelow place → (s : State) (moves : List (List PortValue)) → HasCourse place setup s moves
course_is_there place setup below s [] = (Settled [], s, (refl, refl))
course_is_there place setup below s (move ∷ moves) =
    let settling = settling_there place (links_of setup.circuit setup.roles) (moved s move).values s.step below in
    course-on place setup s move moves settling.0 settling.1.0 settling.1.1
    (course_is_there place setup below (after (moved s move) settling.0) moves)
