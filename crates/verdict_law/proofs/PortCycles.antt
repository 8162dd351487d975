-- Power and the cycles of a trace, as legal runs by ports, where all clocks fall together and where they overlap: to each reading, and on
-- to where the slaves have been closed.
use Rattle.std.proofs.Common.{◌≡◌, ℕ, suc, Bool, List, [], ◌∷◌, ◌++◌, length, refl, sym, subst, ap, ◌∙◌, arith, append-nil, inl, inr}
use Rattle.dom_base.specs.declared.tri.Tri.{Tri}
use Rattle.deck.specs.CircuitData.{CircuitData}
use Rattle.deck.specs.declared.role.Roles.{Roles}
use Rattle.switch_model.specs.LinksData.{links_of}
use Rattle.switch_model.specs.Power.{power_values}
use Rattle.event_sim.specs.declared.event.Event.{Event}
use Rattle.port_runs.specs.Environment.{Open, Released, Step, World, stream_of}
use Rattle.port_runs.specs.declared.clocking.Clocking.{Clocking}
use Rattle.port_runs.specs.LegalSteps.{ClockedLinks}
use Rattle.port_runs.specs.PortRuns.{Rests, RunsBy, SetsPorts, clocked_ports, power_world}
use Rattle.port_runs.specs.Readings.{IsReading}
use Rattle.port_runs.proofs.Steps.{leads_on, stream_of-append}
use Rattle.trace_tool.specs.Courses.{LeadsTo, State}
use Rattle.trace_tool.specs.Moves.{evaluation_by, latching_moves, power_moves}
use Rattle.trace_tool.proofs.CycleMoves.{IsBetween, from_reading, latching_allowed, reading_allowed, reading_by, reading_evaluates, reading_is, reading_rises, reading_takes, release_allowed}
use Rattle.trace_tool.proofs.FailedCourses.{Fails}
use Rattle.trace_tool.proofs.PortWalks.{AreFew, after_moves, at_values, settled_walk, settled_walk_never, walk, walk_never}

module _ (clocking : Clocking) (c : CircuitData) (roles : Roles) where
  abbrev k : ClockedLinks
  k = clocked_ports clocking c roles

  module _ (order : ℕ → ℕ → ℕ → Type 0) where
    -- a legal run that took this stream and rests between two cycles
    pub record IsReady (stream : List (List Bool)) (values : List Tri) : Type 0 where
      pub steps : List Step
      pub world : World
      pub run : RunsBy clocking c roles steps (at_values world values)
      pub stream_is : stream_of steps ≡ stream
      pub between : IsBetween world
      pub rests : Rests c roles (at_values world values)

    -- and one that stands at the reading of its last cycle
    pub record IsReadAt (stream : List (List Bool)) (values : List Tri) : Type 0 where
      pub steps : List Step
      pub world : World
      pub run : RunsBy clocking c roles steps (at_values world values)
      pub stream_is : stream_of steps ≡ stream
      pub reading : IsReading c roles (at_values world values)

    pub powers : (events : List Event) (t : State)
        → LeadsTo order (links_of c roles) (record { values = power_values c roles; step = 0 }) (power_moves roles) events t
        → IsReady [] t.values
    powers events t l =
        let next = settled_walk order k roles (Open Released ∷ []) (power_world c roles) (power_values c roles) 0 events t
        (release_allowed k (power_world c roles) refl) l in
        record {
          steps = next.0;
          world = after_moves (Open Released ∷ []) (power_world c roles);
          run = next.1;
          stream_is = next.3;
          between = inl refl;
          rests = next.2;
        }

    pub evaluates : (stream : List (List Bool)) (pins : List Bool) (more : ℕ) (values : List Tri) (step : ℕ) (events : List Event)
        (t : State)
        → roles.clocks ≡ suc more → length pins ≡ roles.pins → IsReady stream values
        → LeadsTo order (links_of c roles) (record { values = values; step = step }) (evaluation_by clocking roles pins) events t
        → IsReadAt (stream ++ pins ∷ []) t.values
    evaluates stream pins more values step events t clocks long ready l =
        let w = ready.world in
        let next = walk order k roles (reading_by clocking pins more) w values step events t
        (reading_allowed k clocking refl pins more w clocks ready.between long) ready.rests
        (subst (λ moves. LeadsTo order (links_of c roles) (record { values = values; step = step }) moves events t)
        (sym (reading_is roles clocking pins more w clocks)) l) in
        record {
          steps = ready.steps ++ next.0;
          world = after_moves (reading_by clocking pins more) w;
          run = leads_on k (SetsPorts roles) ready.steps next.0 _ _ _ ready.run next.1;
          stream_is =
              stream_of-append ready.steps next.0
              ∙ (ap (λ x. x ++ stream_of next.0) ready.stream_is ∙ ap (λ x. stream ++ x)
              (next.3 ∙ reading_takes clocking pins more));
          reading = record {
            place = reading_evaluates clocking pins more w;
            risen = reading_rises clocking pins more w ∙ omega (arith, clocks);
            rests = next.2;
          };
        }

    pub latches : (stream : List (List Bool)) (values : List Tri) (step : ℕ) (events : List Event) (t : State) → IsReadAt stream values
        → LeadsTo order (links_of c roles) (record { values = values; step = step }) (latching_moves roles) events t
        → IsReady stream t.values
    latches stream values step events t read l =
        let w = read.world in
        let next = walk order k roles from_reading w values step events t (latching_allowed k w (read.reading).place (read.reading).risen)
        (read.reading).rests l in
        record {
          steps = read.steps ++ next.0;
          world = after_moves from_reading w;
          run = leads_on k (SetsPorts roles) read.steps next.0 _ _ _ read.run next.1;
          stream_is = stream_of-append read.steps next.0 ∙
              (ap (λ x. x ++ stream_of next.0) read.stream_is ∙ (ap (λ x. stream ++ x) next.3 ∙ append-nil stream));
          between = inr refl;
          rests = next.2;
        }

    -- where events are few no settling of these ends unsettled
    module _ (few : AreFew order k roles (power_world c roles)) where
      pub powers_never : Fails order (links_of c roles) (record { values = power_values c roles; step = 0 }) (power_moves roles) → ⊥
      powers_never =
          settled_walk_never order k roles (power_world c roles) few (Open Released ∷ []) (power_world c roles)
          (power_values c roles) 0 [] refl
          (release_allowed k (power_world c roles) refl)

      pub evaluates_never : (stream : List (List Bool)) (pins : List Bool) (more : ℕ) (values : List Tri) (step : ℕ)
          → roles.clocks ≡ suc more → length pins ≡ roles.pins
          → IsReady stream values → Fails order (links_of c roles) (record { values = values; step = step }) (evaluation_by clocking roles pins)
          → ⊥
      evaluates_never stream pins more values step clocks long ready f =
          let w = ready.world in
          walk_never order k roles (power_world c roles) few (reading_by clocking pins more) w values step ready.steps ready.run
          (reading_allowed k clocking refl pins more w clocks ready.between long) ready.rests
          (subst (Fails order (links_of c roles) (record { values = values; step = step }))
          (sym (reading_is roles clocking pins more w clocks)) f)

      pub latches_never : (stream : List (List Bool)) (values : List Tri) (step : ℕ) → IsReadAt stream values
          → Fails order (links_of c roles) (record { values = values; step = step }) (latching_moves roles) → ⊥
      latches_never stream values step read f =
          let w = read.world in
          walk_never order k roles (power_world c roles) few from_reading w values step read.steps read.run
          (latching_allowed k w (read.reading).place (read.reading).risen) (read.reading).rests f
