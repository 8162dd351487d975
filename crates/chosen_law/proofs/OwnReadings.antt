-- Where power and whole cycles of the chosen run come to, and that it reads the own run.
use Rattle.std.specs.List.{AllByRecursion}
use Rattle.std.proofs.Common.{◌≡◌, ℕ, Bool, List, [], ◌∷◌, ◌++◌, length, refl, sym, subst, append_assoc}
use Rattle.std.proofs.lemmas.List.{append-nil}
use Rattle.deck.specs.CircuitData.{CircuitData}
use Rattle.deck.specs.declared.role.Roles.{Roles}
use Rattle.switch_model.specs.LinksData.{LinksData, links_of}
use Rattle.switch_model.specs.Power.{power_values}
use Rattle.port_runs.specs.Environment.{Launched, Released, Step, World, is_over, none_fallen}
use Rattle.port_runs.specs.Moves.{PortValue}
use Rattle.port_runs.specs.PortRuns.{power_world}
use Rattle.port_runs.proofs.Steps.{leads_on}
use Rattle.domino_law.specs.Laws.{HasOwnValues}
use Rattle.domino_law.specs.LooseDeck.{IsLooseDeck}
use Rattle.domino_law.specs.Nets.{Net}
use Rattle.domino_law.specs.Runs.{GivesSources, Run, clocked_deck}
use Rattle.domino_law.specs.Settings.{HasPorts}
use Rattle.domino_law.specs.Shape.{Shape}
use Rattle.domino_law.proofs.OwnRunLaws.{realises_own_run}
use Rattle.domino_law.proofs.PowerStates.{power_is_power}
use Rattle.event_sim.specs.declared.event.Event.{Event}
use Rattle.event_sim.specs.Orders.{By}
use Rattle.trace_tool.specs.Moves.{evaluation_moves, power_moves}
use Rattle.trace_tool.specs.Courses.{LeadsTo, State}
use Rattle.chosen_law.specs.Chosen.{IsReadyForPins, IsSettled, Passes, ReadsOwnRun, at_reading}
use Rattle.chosen_law.proofs.Chosen.{evaluation_is_legal, latching_is_legal, power_is_legal}

module _ (place : ℕ → ℕ → ℕ) (roles : Roles) (links : LinksData) (net : Net → ℕ) (s : Shape) (ports : HasPorts roles links net s) where
  -- where a run came to, with the cycles that are over
  pub record Came (w : World) (done : List (List Bool)) (t : State) : Type 0 where
    pub steps : List Step
    pub world : World
    pub step : ℕ
    pub run : Run links net s steps w world
    pub ready : IsReadyForPins links net s world
    pub over : is_over world.place world.past world.pins ≡ done
    pub values : t ≡ record { values = world.values; step = step }

-- cycles whose moves up to a reading are a legal run to it, with clocks fallen so
module _ (place : ℕ → ℕ → ℕ) (roles : Roles) (links : LinksData) (net : Net → ℕ) (s : Shape) (ports : HasPorts roles links net s)
    (moves : List Bool → List (List PortValue)) (IsFallen : (ℕ → Bool) → Type 0)
    (legal : (pins : List Bool) (events : List Event) (w : World) (step : ℕ) (read : State) → IsReadyForPins links net s w → length pins ≡ s.pins
    → LeadsTo (By place) links (record { values = w.values; step = step }) (moves pins) events read
    → (fallen : ℕ → Bool) × IsFallen fallen × (steps : List Step) × Run links net s steps w (at_reading s fallen (is_over w.place w.past w.pins) pins read)
    × IsSettled links net s (at_reading s fallen (is_over w.place w.past w.pins) pins read)) where
  pub evaluated_run : (w : World) (done : List (List Bool)) (t : State) → Came place roles links net s ports w done t
      → (pins : List Bool) (events : List Event) (read : State)
      → length pins ≡ s.pins → LeadsTo (By place) links t (moves pins) events read
      → (fallen : ℕ → Bool) × IsFallen fallen × (steps : List Step) × Run links net s steps w (at_reading s fallen done pins read) × IsSettled links net s (at_reading s fallen done pins read)
  evaluated_run w done t came pins events read long l =
      let e = legal pins events came.world came.step read came.ready long (subst (λ x. LeadsTo (By place) links x (moves pins) events read) came.values l) in (
        e.0,
        e.1,
        came.steps ++ e.2,
        subst (λ d. Run links net s (came.steps ++ e.2) w (at_reading s e.0 d pins read)) came.over (leads_on (clocked_deck links s) (GivesSources links net s) came.steps e.2 w came.world _ came.run e.3),
        subst (λ d. IsSettled links net s (at_reading s e.0 d pins read)) came.over e.4,
      )

  -- whole cycles from there
  pub came_on : (w : World) (done cycles : List (List Bool)) (t u : State) → Came place roles links net s ports w done t
      → AllByRecursion (λ p. length p ≡ s.pins) cycles
      → Passes (By place) links roles moves t cycles u → Came place roles links net s ports w (done ++ cycles) u
  came_on w done [] t u came long p =
      subst (Came place roles links net s ports w (done ++ [])) (sym p) (subst (λ d. Came place roles links net s ports w d t) (sym (append-nil done)) came)
  came_on w done (pins ∷ more) t u came long p =
      let e = evaluated_run w done t came pins p.2 p.0 long.0 p.4 in
      let l = latching_is_legal place roles links net s p.3 (at_reading s e.0 done pins p.0) (p.0).step p.1 ports refl refl e.4 p.5 in
      let next : Came place roles links net s ports w (done ++ pins ∷ []) p.1 = record {
        steps = e.2 ++ l.0;
        world = record { place = Launched; risen = s.clocks; fallen = e.0; past = done; pins = pins; values = (p.1).values };
        step = (p.1).step;
        run = leads_on (clocked_deck links s) (GivesSources links net s) e.2 l.0 w _ _ e.3 l.1;
        ready = l.2;
        over = refl;
        values = refl;
      } in
      subst (λ d. Came place roles links net s ports w d u) (append_assoc done (pins ∷ []) more) (came_on w (done ++ pins ∷ []) more p.1 u next long.1 p.6)

-- where power comes to
pub powered_to : (place : ℕ → ℕ → ℕ) (c : CircuitData) (roles : Roles) (net : Net → ℕ) (s : Shape) (ports : HasPorts roles (links_of c roles) net s) (powered : List Event) (start : State)
    → LeadsTo (By place) (links_of c roles) (record { values = power_values c roles; step = 0 }) (power_moves roles) powered start
    → Came place roles (links_of c roles) net s ports (power_world c roles) [] start
powered_to place c roles net s ports powered start power =
    let p = power_is_legal place c roles net s powered start ports power in
    record {
      steps = p.0;
      world = record { place = Released; risen = 0; fallen = none_fallen; past = []; pins = []; values = start.values };
      step = start.step;
      run = p.1;
      ready = p.2;
      over = refl;
      values = refl;
    }

-- where all clocks fall together none has fallen at a reading
module _ (place : ℕ → ℕ → ℕ) (c : CircuitData) (roles : Roles) (net : Net → ℕ) (s : Shape) (ports : HasPorts roles (links_of c roles) net s) where
  legal : (pins : List Bool) (events : List Event) (w : World) (step : ℕ) (read : State) → IsReadyForPins (links_of c roles) net s w
      → length pins ≡ s.pins
      → LeadsTo (By place) (links_of c roles) (record { values = w.values; step = step }) (evaluation_moves roles pins) events read
      → (fallen : ℕ → Bool) × (fallen ≡ none_fallen) × (steps : List Step) × Run (links_of c roles) net s steps w (at_reading s fallen (is_over w.place w.past w.pins) pins read)
      × IsSettled (links_of c roles) net s (at_reading s fallen (is_over w.place w.past w.pins) pins read)
  legal pins events w step read ready long l =
      let e = evaluation_is_legal place roles (links_of c roles) net s pins events w step read ports ready long l in
      (none_fallen, refl, e.0, e.1, e.2)

  pub came_after : (cycles : List (List Bool)) (powered : List Event) (start last : State) → AllByRecursion (λ p. length p ≡ s.pins) cycles
      → LeadsTo (By place) (links_of c roles) (record { values = power_values c roles; step = 0 }) (power_moves roles) powered start
      → Passes (By place) (links_of c roles) roles (evaluation_moves roles) start cycles last
      → Came place roles (links_of c roles) net s ports (power_world c roles) cycles last
  came_after cycles powered start last all power passes =
      came_on place roles (links_of c roles) net s ports (evaluation_moves roles) (λ f. f ≡ none_fallen) legal (power_world c roles) [] cycles start last
      (powered_to place c roles net s ports powered start power) all passes

  reads : (cycles : List (List Bool)) (pins : List Bool) (powered evaluated : List Event) (start last read : State)
      → IsLooseDeck (links_of c roles) net s
      → AllByRecursion (λ p. length p ≡ s.pins) cycles → length pins ≡ s.pins
      → LeadsTo (By place) (links_of c roles) (record { values = power_values c roles; step = 0 }) (power_moves roles) powered start
      → Passes (By place) (links_of c roles) roles (evaluation_moves roles) start cycles last
      → LeadsTo (By place) (links_of c roles) last (evaluation_moves roles pins) evaluated read
      → HasOwnValues net s (at_reading s none_fallen cycles pins read)
  reads cycles pins powered evaluated start last read loose all long power passes l =
      let came = came_after cycles powered start last all power passes in
      let e = evaluated_run place roles (links_of c roles) net s ports (evaluation_moves roles) (λ f. f ≡ none_fallen) legal (power_world c roles) cycles last came pins evaluated read long l in
      let r = realises_own_run (links_of c roles) net s e.2 (power_world c roles) _ loose (power_is_power c roles net s ports) e.3 in
      subst (λ f. HasOwnValues net s (at_reading s f cycles pins read)) e.1 (r.reading (record { place = refl; risen = refl; rests = (e.4).rests }))

pub reads_own_run : ReadsOwnRun
reads_own_run place c roles net s cycles pins powered evaluated start last read loose ports all long power passes l =
    reads place c roles net s ports cycles pins powered evaluated start last read loose all long power passes l
