-- The settling of a run: its events one by one, and how it ends.
use Rattle.std.proofs.Common.{◌≡◌, ℕ, ◌+◌, ◌≤◌, ◌^◌, true, Ok, Err, List, [], ◌∷◌, ◌++◌, length, refl, sym, ap, ◌∙◌, subst, arith, append-nil}
use Rattle.std.proofs.lemmas.List.{length_push}
use Rattle.switch_model.specs.LinksData.{links_of}
use Rattle.event_sim.specs.declared.event.Event.{Event}
use Rattle.event_sim.specs.Chains.{IsChain, IsChosen}
use Rattle.event_sim.specs.Pending.{IsResting}
use Rattle.event_sim.specs.Settling.{most_events}
use Rattle.event_sim.proofs.EventChains.{chain-push, step_after-push, values_after-push}
use Rattle.trace_tool.specs.RunData.{RunData, Settles, StepsOnce, with_events}
use Rattle.trace_tool.specs.TraceLines.{event_lines}
use Rattle.trace_tool.specs.declared.halt.Halt.TheVariants as halts
use Rattle.trace_tool.proofs.EventLines.{event_lines-none, text-append}

module _ {F : Type 0} where
  -- so many chosen events lead to this run, whose text has their lines
  pub record HasRun (P : F → ℕ → ℕ → ℕ → Type 0) (start : RunData F) (count : ℕ) (now : RunData F) : Type 0 where
    pub events : List Event
    pub number : length events ≡ count
    pub chain : IsChain (P start.pick) (links_of start.setup.circuit start.setup.roles) start.state.values start.state.step events
    pub now_is : now ≡ with_events start events

  with_events-push : (r : RunData F) (events : List Event) (event : Event) → with_events (with_events r events) (event ∷ []) ≡ with_events r (events ++ event ∷ [])
  with_events-push r events event = λ i. record {
    setup = r.setup;
    pick = r.pick;
    state = record {
      values = sym (values_after-push r.state.values events event) i;
      step = sym (step_after-push r.state.step events event) i;
    };
    text = text-append r.setup r.text (r.text ++ event_lines r.setup events) (with_events (with_events r events) (event ∷ [])).text events (event ∷ []) refl refl i;
  }

  module _ (P : F → ℕ → ℕ → ℕ → Type 0) where
    pub run-none : (start : RunData F) → HasRun P start 0 start
    run-none start = record {
      events = [];
      number = refl;
      chain = tt;
      now_is = λ i. record {
        setup = start.setup;
        pick = start.pick;
        state = start.state;
        text = sym (ap (λ (l : List ℕ). start.text ++ l) (event_lines-none start.setup) ∙ append-nil start.text) i;
      };
    }

    -- one more event
    pub run-more : (start now new : RunData F) (count : ℕ) → HasRun P start count now → StepsOnce P now true new → HasRun P start (count + 1) new
    run-more start now new count run (event, at, chosen, is) = record {
      events = run.events ++ event ∷ [];
      number = length_push run.events event ∙ ap (λ (n : ℕ). n + 1) run.number;
      chain = chain-push (P start.pick) (links_of start.setup.circuit start.setup.roles) start.state.values start.state.step run.events event run.chain
          (at ∙ ap (λ (r : RunData F). r.state.step) run.now_is)
          (subst (λ (r : RunData F). IsChosen (P r.pick) (links_of r.setup.circuit r.setup.roles) r.state.values event) run.now_is chosen);
      now_is = is ∙ ap (λ (r : RunData F). with_events r (event ∷ [])) run.now_is ∙ with_events-push start run.events event;
    }

    -- at rest, after at most so many events
    pub settles-rest : (start now new : RunData F) (count most : ℕ) → HasRun P start count now
        → most ≡ most_events (links_of start.setup.circuit start.setup.roles) → most ≤ 2 ^ 53 → count ≤ most
        → IsResting (links_of now.setup.circuit now.setup.roles) now.state.values → new ≡ now → Settles P start (Ok count) new
    settles-rest start now new count most run most_is few within rest same = (
      run.events,
      record {
        chain = run.chain;
        few = omega (arith, run.number, most_is, within);
        rest = subst (λ (r : RunData F). IsResting (links_of r.setup.circuit r.setup.roles) r.state.values) run.now_is rest;
      },
      same ∙ run.now_is,
      sym run.number,
      omega (arith, few, within),
    )

    -- not at rest, after as many as there may be
    pub settles-unrest : (start now new : RunData F) (count most : ℕ) → HasRun P start count now
        → most ≡ most_events (links_of start.setup.circuit start.setup.roles) → count ≡ most
        → (IsResting (links_of now.setup.circuit now.setup.roles) now.state.values → ⊥) → new ≡ now → Settles P start (Err (halts.Unsettled count)) new
    settles-unrest start now new count most run most_is whole unrest same = (
      run.events,
      record {
        chain = run.chain;
        count = run.number ∙ whole ∙ most_is;
        unrest = subst (λ (r : RunData F). IsResting (links_of r.setup.circuit r.setup.roles) r.state.values → ⊥) run.now_is unrest;
      },
      same ∙ run.now_is,
      sym run.number,
    )
