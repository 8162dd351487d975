-- In an order that is a function moves have one course.
use Rattle.std.proofs.Common.{◌≡◌, ℕ, ◌⊎◌, inl, inr, List, [], ◌∷◌, ◌++◌, length, refl, sym, ap, ◌∙◌, subst}
use Rattle.std.proofs.lemmas.List.{append_assoc}
use Rattle.dom_base.specs.declared.tri.Tri.{Tri}
use Rattle.switch_model.specs.LinksData.{LinksData, links_of}
use Rattle.event_sim.specs.declared.event.Event.{Event}
use Rattle.event_sim.specs.declared.event.Settled.TheVariants as answers
use Rattle.event_sim.specs.Orders.{By}
use Rattle.event_sim.specs.Settling.{EndsAtRest, EndsUnsettled}
use Rattle.event_sim.proofs.OneSettling.{settling_has_one_chain}
use Rattle.port_runs.specs.Moves.{PortValue}
use Rattle.trace_tool.specs.Courses.{Course, EndsWithin, IsCourse, LeadsTo, Settled, State, Unsettled, after, moved}
use Rattle.trace_tool.specs.SetupData.{SetupData}

-- two settlings that end at rest have the same events
rest_is_one : (place : ℕ → ℕ → ℕ) (links : LinksData) (values : List Tri) (step : ℕ) (a b : List Event)
    → EndsAtRest (By place) links values step a → EndsAtRest (By place) links values step b → a ≡ b
rest_is_one place links values step a b x y =
    settling_has_one_chain place links values step a b (answers.Rest (length a)) (answers.Rest (length b)) (x, refl) (y, refl)

-- and so have two that end unsettled
unrest_is_one : (place : ℕ → ℕ → ℕ) (links : LinksData) (values : List Tri) (step : ℕ) (a b : List Event)
    → EndsUnsettled (By place) links values step a → EndsUnsettled (By place) links values step b → a ≡ b
unrest_is_one place links values step a b x y =
    settling_has_one_chain place links values step a b (answers.Unsettled (length a)) (answers.Unsettled (length b)) (x, refl) (y, refl)

-- none ends both ways
rest_or_unrest : (place : ℕ → ℕ → ℕ) (links : LinksData) (values : List Tri) (step : ℕ) (a b : List Event)
    → EndsAtRest (By place) links values step a → EndsUnsettled (By place) links values step b → ⊥
rest_or_unrest place links values step a b x y =
    let same = settling_has_one_chain place links values step a b (answers.Rest (length a)) (answers.Unsettled (length b)) (x, refl) (y, refl) in
    y.unrest (subst (λ (l : List Event). EndsAtRest (By place) links values step l) same x).rest

-- of the moves in turn one ends unsettled, from the first move on
abbrev EndsFrom : (ℕ → ℕ → ℕ → Type 0) → LinksData → State → List (List PortValue) → List Event → List Event → State → Type 0
EndsFrom order links s [] events last t = ⊥
EndsFrom order links s (move ∷ moves) events last t =
    (EndsUnsettled order links (moved s move).values s.step last × (events ≡ last) × (t ≡ after (moved s move) last))
    ⊎ ((first rest : List Event) × (events ≡ first ++ rest)
    × EndsAtRest order links (moved s move).values s.step first
    × EndsFrom order links (after (moved s move) first) moves rest last t)

ends_behind : (order : ℕ → ℕ → ℕ → Type 0) (links : LinksData) (s state t : State) (before : List (List PortValue)) (move : List PortValue) (never : List (List PortValue)) (earlier last : List Event)
    → LeadsTo order links s before earlier state → EndsUnsettled order links (moved state move).values state.step last → t ≡ after (moved state move) last
    → EndsFrom order links s (before ++ move ∷ never) (earlier ++ last) last t
ends_behind order links s state t [] move never earlier last (none, same) unsettled reached = inl (
  subst (λ (r : State). EndsUnsettled order links (moved r move).values r.step last) same unsettled,
  ap (λ (l : List Event). l ++ last) none,
  reached ∙ ap (λ (r : State). after (moved r move) last) same,
)
ends_behind order links s state t (m ∷ before) move never earlier last (first, rest, are, at_rest, leads) unsettled reached = inr (
  first,
  rest ++ last,
  ap (λ (l : List Event). l ++ last) are ∙ append_assoc first rest last,
  at_rest,
  ends_behind order links (after (moved s m) first) state t before move never rest last leads unsettled reached,
)

ends_from : (order : ℕ → ℕ → ℕ → Type 0) (links : LinksData) (s t : State) (moves : List (List PortValue)) (events last : List Event)
    → EndsWithin order links s moves events last t → EndsFrom order links s moves events last t
ends_from order links s t moves events last e =
    subst (λ (m : List (List PortValue)). EndsFrom order links s m events last t) (sym e.moves_are)
    (subst (λ (l : List Event). EndsFrom order links s (e.before ++ e.move ∷ e.never) l last t) (sym e.events_are)
    (ends_behind order links s e.state t e.before e.move e.never e.earlier last e.leads e.unsettled e.reached))

-- moves that come to rest do so by the same events, in the same state
leads_are_one : (place : ℕ → ℕ → ℕ) (links : LinksData) (s : State) (moves : List (List PortValue)) (a b : List Event) (t u : State)
    → LeadsTo (By place) links s moves a t → LeadsTo (By place) links s moves b u → (a ≡ b) × (t ≡ u)
leads_are_one place links s [] a b t u (none, same) (none', same') = (none ∙ sym none', same ∙ sym same')
leads_are_one place links s (move ∷ moves) a b t u (first, rest, are, at_rest, leads) (first', rest', are', at_rest', leads') =
    let e = rest_is_one place links (moved s move).values s.step first first' at_rest at_rest' in
    let more = leads_are_one place links (after (moved s move) first) moves rest rest' t u leads
    (subst (λ (l : List Event). LeadsTo (By place) links (after (moved s move) l) moves rest' u) (sym e) leads') in
    (are ∙ ap (λ (l : List Event). l ++ rest) e ∙ ap (λ (l : List Event). first' ++ l) more.0 ∙ sym are', more.1)

-- moves of which one ends unsettled do so by the same events
ends_are_one : (place : ℕ → ℕ → ℕ) (links : LinksData) (s : State) (moves : List (List PortValue)) (a b l k : List Event) (t u : State)
    → EndsFrom (By place) links s moves a l t → EndsFrom (By place) links s moves b k u → (a ≡ b) × (l ≡ k) × (t ≡ u)
ends_are_one place links s [] a b l k t u x y = absurd x
ends_are_one place links s (move ∷ moves) a b l k t u (inl (unsettled, are, at)) (inl (unsettled', are', at')) =
    let e = unrest_is_one place links (moved s move).values s.step l k unsettled unsettled' in
    (are ∙ e ∙ sym are', e, at ∙ ap (λ (f : List Event). after (moved s move) f) e ∙ sym at')
ends_are_one place links s (move ∷ moves) a b l k t u (inl (unsettled, are, at)) (inr (first, rest, are', at_rest, ends)) =
    absurd (rest_or_unrest place links (moved s move).values s.step first l at_rest unsettled)
ends_are_one place links s (move ∷ moves) a b l k t u (inr (first, rest, are, at_rest, ends)) (inl (unsettled, are', at')) =
    absurd (rest_or_unrest place links (moved s move).values s.step first k at_rest unsettled)
ends_are_one place links s (move ∷ moves) a b l k t u (inr (first, rest, are, at_rest, ends)) (inr (first', rest', are', at_rest', ends')) =
    let e = rest_is_one place links (moved s move).values s.step first first' at_rest at_rest' in
    let more = ends_are_one place links (after (moved s move) first) moves rest rest' l k t u ends
    (subst (λ (f : List Event). EndsFrom (By place) links (after (moved s move) f) moves rest' k u) (sym e) ends') in
    (are ∙ ap (λ (f : List Event). f ++ rest) e ∙ ap (λ (f : List Event). first' ++ f) more.0 ∙ sym are', more.1, more.2)

-- moves that settle have none that ends unsettled
leads_or_ends : (place : ℕ → ℕ → ℕ) (links : LinksData) (s : State) (moves : List (List PortValue)) (a b last : List Event) (t u : State)
    → LeadsTo (By place) links s moves a t → EndsFrom (By place) links s moves b last u → ⊥
leads_or_ends place links s [] a b last t u x y = y
leads_or_ends place links s (move ∷ moves) a b last t u (first, rest, are, at_rest, leads) (inl (unsettled, are', at')) =
    rest_or_unrest place links (moved s move).values s.step first last at_rest unsettled
leads_or_ends place links s (move ∷ moves) a b last t u (first, rest, are, at_rest, leads) (inr (first', rest', are', at_rest', ends)) =
    let e = rest_is_one place links (moved s move).values s.step first first' at_rest at_rest' in
    leads_or_ends place links (after (moved s move) first) moves rest rest' last t u leads
    (subst (λ (f : List Event). EndsFrom (By place) links (after (moved s move) f) moves rest' last u) (sym e) ends)

-- two courses of the same moves from one state are the same, and end in the same state
pub course_is_one : (place : ℕ → ℕ → ℕ) (setup : SetupData) (s : State) (moves : List (List PortValue)) (c d : Course) (t u : State)
    → IsCourse (By place) setup s moves c t → IsCourse (By place) setup s moves d u → (c ≡ d) × (t ≡ u)
course_is_one place setup s moves (Settled a) (Settled b) t u x y =
    let same = leads_are_one place (links_of setup.circuit setup.roles) s moves a b t u x y in
    (ap Settled same.0, same.1)
course_is_one place setup s moves (Settled a) (Unsettled b l) t u x y =
    let links = links_of setup.circuit setup.roles in
    absurd (leads_or_ends place links s moves a b l t u x (ends_from (By place) links s u moves b l y))
course_is_one place setup s moves (Unsettled a l) (Settled b) t u x y =
    let links = links_of setup.circuit setup.roles in
    absurd (leads_or_ends place links s moves b a l u t y (ends_from (By place) links s t moves a l x))
course_is_one place setup s moves (Unsettled a l) (Unsettled b k) t u x y =
    let links = links_of setup.circuit setup.roles in
    let same = ends_are_one place links s moves a b l k t u (ends_from (By place) links s t moves a l x) (ends_from (By place) links s u moves b k y) in
    (ap (λ (e : List Event). Unsettled e l) same.0 ∙ ap (λ (e : List Event). Unsettled b e) same.1, same.2)
