-- Settlings and the moves between them, in turn, are a legal run whose moves set ports; none ends unsettled where events are few.
use Rattle.std.proofs.Common.{◌≡◌, ℕ, ◌+◌, ◌-◌, ◌*◌, ◌≤◌, Bool, List, [], ◌∷◌, ◌++◌, length, map, slice_set, refl, sym, subst, ap, ◌∙◌, inl, inr, arith}
use Rattle.std.proofs.lemmas.List.{length-append, length-map, map-append}
use Rattle.dom_base.specs.declared.tri.Tri.{Tri}
use Rattle.deck.specs.declared.role.Roles.{Roles}
use Rattle.switch_model.specs.LinksData.{LinksData}
use Rattle.event_sim.specs.declared.event.Event.{Event}
use Rattle.event_sim.specs.Chains.{IsChain, IsChosen, step_after, values_after}
use Rattle.event_sim.specs.Orders.{By, first_place}
use Rattle.event_sim.specs.Pending.{IsResting}
use Rattle.event_sim.specs.Settling.{EndsAtRest, EndsUnsettled, IsSettling, most_events}
use Rattle.event_sim.specs.declared.event.Settled.{Settled}
use Rattle.event_sim.specs.declared.event.Settled.TheVariants.{Rest, Unsettled}
use Rattle.event_sim.proofs.OneSettling.{chosen_is_event}
use Rattle.event_sim.proofs.SettlingThere.{settling_there}
use Rattle.port_runs.specs.Environment.{Fall, Happens, Move, Moves, Open, Rise, Step, Take, World, after_move, settings_of, stream_of}
use Rattle.port_runs.specs.LegalSteps.{ClockedLinks, DoesIn, LeadsIn, RestsIn}
use Rattle.port_runs.specs.Moves.{PortValue, set_all}
use Rattle.port_runs.specs.Order.{Allows}
use Rattle.port_runs.specs.PortRuns.{SetsPorts}
use Rattle.port_runs.proofs.RunOrder.{may_move}
use Rattle.port_runs.proofs.Steps.{leads_on, stream_of-append, stream_of-events}
use Rattle.trace_tool.specs.Courses.{LeadsTo, State}
use Rattle.trace_tool.proofs.FailedCourses.{Fails}

-- each of the moves is allowed after those before it, whatever the values of the nets are
abbrev pub AreAllowed : ClockedLinks → List Move → World → Type 0
AreAllowed k [] w = Unit {0}
AreAllowed k (move ∷ moves) w = Allows k.clocking k.clocks k.pins move w × AreAllowed k moves (after_move move w)

-- where they lead, but for the values
abbrev pub after_moves : List Move → World → World
after_moves [] w = w
after_moves (move ∷ moves) w = after_moves moves (after_move move w)

-- the ports that each of them sets
abbrev pub settings_from : Roles → List Move → World → List (List PortValue)
settings_from roles [] w = []
settings_from roles (move ∷ moves) w = settings_of roles move w.risen ∷ settings_from roles moves (after_move move w)

-- the pins that they take
abbrev pub taken : List Move → List (List Bool)
taken moves = stream_of (map (λ move. Moves move) moves)

-- a world with these values
abbrev pub at_values : World → List Tri → World
at_values w values = record w { values = values }

-- the events as steps
abbrev pub happened : List Event → List Step
happened events = map (λ n. Happens n) (map (λ (e : Event). e.net) events)

same_stream : (move : Move) (a b : List Step) → stream_of a ≡ stream_of b → stream_of (Moves move ∷ a) ≡ stream_of (Moves move ∷ b)
same_stream (Open place) a b e = e
same_stream (Take pins) a b e = ap (λ l. pins ∷ l) e
same_stream Rise a b e = e
same_stream (Fall k) a b e = e

moved_frame : (move : Move) (w : World) (values after : List Tri)
    → at_values (after_move move (at_values w values)) after ≡ at_values (after_move move w) after
moved_frame (Open place) w values after = refl
moved_frame (Take pins) w values after = refl
moved_frame Rise w values after = refl
moved_frame (Fall k) w values after = refl

-- where there is no rest some net may take its target
one_more : (links : LinksData) (values : List Tri) → (IsResting links values → ⊥)
    → (event : Event) × IsChosen (By first_place) links values event
one_more links values unrest = by (settling_there first_place links values 0 (λ step count some. some))
  where
    first_of : (events : List Event) → IsChain (By first_place) links values 0 events → 1 ≤ length events
        → (event : Event) × IsChosen (By first_place) links values event
    first_of [] chain some = absurd (omega (arith, some))
    first_of (event ∷ events) chain some = (event, chain.1)

    rests : (events : List Event) → EndsAtRest (By first_place) links values 0 events
        → (event : Event) × IsChosen (By first_place) links values event
    rests [] e = absurd (unrest e.rest)
    rests (event ∷ events) e = first_of (event ∷ events) e.chain (omega arith)

    some_events : (n : ℕ) → 1 ≤ (n + 1) * (n + 1)
    some_events n = omega (arith)

    by : (events : List Event) × ((settled : Settled) × IsSettling (By first_place) links values 0 events settled)
        → (event : Event) × IsChosen (By first_place) links values event
    by (events, (Rest k, (e, _))) = rests events e
    by (events, (Unsettled k, (e, _))) = first_of events e.chain (rw e.count (some_events (links.nets - links.sources)))

-- one list of moves after another
pub allowed-append : (k : ClockedLinks) (a b : List Move) (w : World) → AreAllowed k a w → AreAllowed k b (after_moves a w)
    → AreAllowed k (a ++ b) w
allowed-append k [] b w p q = q
allowed-append k (move ∷ a) b w p q = (p.0, allowed-append k a b (after_move move w) p.1 q)

pub settings-append : (roles : Roles) (a b : List Move) (w : World)
    → settings_from roles (a ++ b) w ≡ settings_from roles a w ++ settings_from roles b (after_moves a w)
settings-append roles [] b w = refl
settings-append roles (move ∷ a) b w = ap (λ l. settings_of roles move w.risen ∷ l) (settings-append roles a b (after_move move w))

module _ (order : ℕ → ℕ → ℕ → Type 0) (k : ClockedLinks) (roles : Roles) where
  -- steps whose moves set ports
  abbrev pub Walks : List Step → World → World → Type 0
  Walks steps w u = LeadsIn k (SetsPorts roles) steps w u

  -- chosen events happen one after the other
  pub chain_leads : (events : List Event) (w : World) (values : List Tri) (step : ℕ) → IsChain order k.links values step events
      → Walks (happened events) (at_values w values) (at_values w (values_after values events))
  chain_leads [] w values step chain = refl
  chain_leads (event ∷ events) w values step chain =
      let changed : List Tri = slice_set values event.net event.after in
      (at_values w changed, (changed, refl, chosen_is_event order k.links values event chain.1), chain_leads events w changed _ chain.2)

  moved_to : (move : Move) (w : World) (values : List Tri) → Allows k.clocking k.clocks k.pins move w → RestsIn k.links (at_values w values)
      → DoesIn k (SetsPorts roles) (Moves move) (at_values w values)
      (at_values (after_move move w) (set_all values (settings_of roles move w.risen)))
  moved_to move w values a r = (
    may_move k move (at_values w values) (allowed move a) r,
    (
      set_all values (settings_of roles move w.risen),
      sym (moved_frame move w values (set_all values (settings_of roles move w.risen))),
      refl,
    ),
  )
    where
      allowed : (move : Move) → Allows k.clocking k.clocks k.pins move w → Allows k.clocking k.clocks k.pins move (at_values w values)
      allowed (Open place) a = a
      allowed (Take pins) a = a
      allowed Rise a = a
      allowed (Fall i) a = a

  -- moves in turn, each with its settling, are steps of a legal run, from rest to rest
  pub walk : (moves : List Move) (w : World) (values : List Tri) (step : ℕ) (events : List Event) (t : State) → AreAllowed k moves w
      → RestsIn k.links (at_values w values)
      → LeadsTo order k.links (record { values = values; step = step }) (settings_from roles moves w) events t
      → (steps : List Step)
      × Walks steps (at_values w values) (at_values (after_moves moves w) t.values)
      × RestsIn k.links (at_values (after_moves moves w) t.values)
      × (stream_of steps ≡ taken moves)
  walk [] w values step events t allowed rest l =
      let same : t.values ≡ values = ap (λ (s : State). s.values) l.1 in
      ([], ap (at_values w) same, subst (λ v. RestsIn k.links (at_values w v)) (sym same) rest, refl)
  walk (move ∷ moves) w values step events t allowed rest l =
      let set : List Tri = set_all values (settings_of roles move w.risen) in
      let came : List Tri = values_after set l.0 in
      let next = walk moves (after_move move w) came (step_after step l.0) l.1 t allowed.1 (l.3).rest l.4 in
      let goes = chain_leads l.0 (after_move move w) set step (l.3).chain in (
        Moves move ∷ (happened l.0 ++ next.0),
        (
          at_values (after_move move w) set,
          moved_to move w values allowed.0 rest,
          leads_on k (SetsPorts roles) (happened l.0) next.0 _ _ _ goes next.1,
        ),
        next.2,
        same_stream move (happened l.0 ++ next.0) (map (λ move. Moves move) moves)
            (stream_of-append (happened l.0) next.0
            ∙ (ap (λ x. x ++ stream_of next.0) (stream_of-events (map (λ (e : Event). e.net) l.0)) ∙ next.3)),
      )

  -- a settling, and then the moves
  pub settled_walk : (moves : List Move) (w : World) (values : List Tri) (step : ℕ) (events : List Event) (t : State) → AreAllowed k moves w
      → LeadsTo order k.links (record { values = values; step = step }) ([] ∷ settings_from roles moves w) events t
      → (steps : List Step)
      × Walks steps (at_values w values) (at_values (after_moves moves w) t.values)
      × RestsIn k.links (at_values (after_moves moves w) t.values)
      × (stream_of steps ≡ taken moves)
  settled_walk moves w values step events t allowed l =
      let next = walk moves w (values_after values l.0) (step_after step l.0) l.1 t allowed (l.3).rest l.4 in (
        happened l.0 ++ next.0,
        leads_on k (SetsPorts roles) (happened l.0) next.0 _ _ _ (chain_leads l.0 w values step (l.3).chain) next.1,
        next.2,
        stream_of-append (happened l.0) next.0 ∙ (ap (λ x. x ++ stream_of next.0) (stream_of-events (map (λ (e : Event). e.net) l.0))
            ∙ next.3),
      )

  -- at most so many events come between two moves of each such run from a state
  abbrev pub AreFew : World → Type 0
  AreFew start = (steps : List Step) (events : List ℕ) (w w' : World) → Walks steps start w → Walks (map (λ n. Happens n) events) w w'
      → length events ≤ most_events k.links

  module _ (start : World) (few : AreFew start) where
    no_unrest : (w : World) (values : List Tri) (steps : List Step) (step : ℕ) (last : List Event) → Walks steps start (at_values w values)
        → EndsUnsettled order k.links values step last → ⊥
    no_unrest w values steps step last run u =
        let reached : List Tri = values_after values last in
        let more = one_more k.links reached u.unrest in
        let nets : List ℕ = map (λ (e : Event). e.net) last in
        let after : List Tri = slice_set reached more.0.net more.0.after in
        let goes : Walks (happened last ++ Happens more.0.net ∷ []) (at_values w values) (at_values w after) =
        leads_on k (SetsPorts roles) (happened last) (Happens more.0.net ∷ []) _ _ _ (chain_leads last w values step u.chain)
        (at_values w after, (after, refl, chosen_is_event (By first_place) k.links reached more.0 more.1), refl) in
        let within = few steps (nets ++ more.0.net ∷ []) (at_values w values) (at_values w after) run
        (subst (λ x. Walks x (at_values w values) (at_values w after)) (sym (map-append (λ n. Happens n) nets (more.0.net ∷ []))) goes) in
        let long : length (nets ++ more.0.net ∷ []) ≡ most_events k.links + 1 =
        length-append nets (more.0.net ∷ []) ∙ ap (λ x. x + 1) (length-map last (λ (e : Event). e.net) ∙ u.count) in
        absurd (omega (arith, within, long))

    -- none of them ends unsettled
    pub walk_never : (moves : List Move) (w : World) (values : List Tri) (step : ℕ) (steps : List Step)
        → Walks steps start (at_values w values)
        → AreAllowed k moves w → RestsIn k.links (at_values w values)
        → Fails order k.links (record { values = values; step = step }) (settings_from roles moves w) → ⊥
    walk_never [] w values step steps run allowed rest f = f
    walk_never (move ∷ moves) w values step steps run allowed rest f =
        let set : List Tri = set_all values (settings_of roles move w.risen) in
        let moved_run : Walks (steps ++ Moves move ∷ []) start (at_values (after_move move w) set) =
        leads_on k (SetsPorts roles) steps (Moves move ∷ []) _ _ _ run
        (at_values (after_move move w) set, moved_to move w values allowed.0 rest, refl) in
        elim f [
          | inl u ↦ no_unrest (after_move move w) set (steps ++ Moves move ∷ []) step u.0 moved_run u.1
          | inr g ↦ walk_never moves (after_move move w) (values_after set g.0) (step_after step g.0)
              ((steps ++ Moves move ∷ []) ++ happened g.0)
              (leads_on k (SetsPorts roles) (steps ++ Moves move ∷ []) (happened g.0) _ _ _ moved_run
              (chain_leads g.0 (after_move move w) set step (g.1).chain))
              allowed.1 (g.1).rest g.2
        ]

    pub settled_walk_never : (moves : List Move) (w : World) (values : List Tri) (step : ℕ) (steps : List Step)
        → Walks steps start (at_values w values)
        → AreAllowed k moves w → Fails order k.links (record { values = values; step = step }) ([] ∷ settings_from roles moves w) → ⊥
    settled_walk_never moves w values step steps run allowed (inl u) = no_unrest w values steps step u.0 run u.1
    settled_walk_never moves w values step steps run allowed (inr g) =
        walk_never moves w (values_after values g.0) (step_after step g.0) (steps ++ happened g.0)
        (leads_on k (SetsPorts roles) steps (happened g.0) _ _ _ run (chain_leads g.0 w values step (g.1).chain)) allowed (g.1).rest g.2
