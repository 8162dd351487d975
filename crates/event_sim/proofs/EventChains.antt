-- Chains of events that grow by one, and how a settling ends.
use Rattle.std.proofs.Common.{◌≡◌, ℕ, ◌+◌, ◌<◌, ◌≤◌, ◌%◌, ◌^◌, List, [], ◌∷◌, ◌++◌, length, refl, sym, ap, ◌∙◌, subst, arith}
use Rattle.std.proofs.lemmas.List.{length-set, length_push}
use Rattle.std.proofs.Math.Nat.{mod-add-mod, mod-eq_of_lt}
use Rattle.std.proofs.lemmas.Nat.{mod_below}
use Rattle.dom_base.specs.declared.tri.Tri.{Tri}
use Rattle.switch_model.specs.LinksData.{LinksData}
use Rattle.event_sim.specs.declared.event.Event.{Event}
use Rattle.event_sim.specs.declared.event.Settled.{Settled}
use Rattle.event_sim.specs.declared.event.Settled.TheVariants.{Rest, Unsettled}
use Rattle.event_sim.specs.Chains.{IsChain, IsChosen, changed, next_step, step_after, values_after}
use Rattle.event_sim.specs.Pending.{IsResting}
use Rattle.event_sim.specs.Settling.{IsSettling, most_events}
use Rattle.event_sim.specs.SimData.{SimData, ran}

-- one more chosen event at the end
pub chain-push : (order : ℕ → ℕ → ℕ → Type 0) (links : LinksData) (values : List Tri) (step : ℕ) (events : List Event) (event : Event)
    → IsChain order links values step events → event.step ≡ step_after step events → IsChosen order links (values_after values events) event
    → IsChain order links values step (events ++ event ∷ [])
chain-push order links values step [] event chain at chosen = (at, chosen, tt)
chain-push order links values step (e ∷ es) event chain at chosen =
    (chain.0, chain.1, chain-push order links (changed values e) (next_step step) es event chain.2 at chosen)

pub values_after-push : (values : List Tri) (events : List Event) (event : Event) → values_after values (events ++ event ∷ []) ≡ changed (values_after values events) event
values_after-push values [] event = refl
values_after-push values (e ∷ es) event = values_after-push (changed values e) es event

pub step_after-push : (step : ℕ) (events : List Event) (event : Event) → step_after step (events ++ event ∷ []) ≡ next_step (step_after step events)
step_after-push step [] event = refl
step_after-push step (e ∷ es) event = step_after-push (next_step step) es event

-- events keep one value per net
pub length-values_after : (values : List Tri) (events : List Event) → length (values_after values events) ≡ length values
length-values_after values [] = refl
length-values_after values (e ∷ es) = length-values_after (changed values e) es ∙ length-set values e.net e.after

-- the step counts events
pub step_after-count : (step : ℕ) (events : List Event) → step < 2 ^ 64 → step_after step events ≡ (step + length events) % (2 ^ 64)
step_after-count step [] fits =
    let same : step + 0 ≡ step = omega arith in
    sym (ap (λ (n : ℕ). n % (2 ^ 64)) same ∙ mod-eq_of_lt fits)
step_after-count step (e ∷ es) fits =
    step_after-count (next_step step) es (mod_below (step + 1) (2 ^ 64) (omega arith))
    ∙ mod-add-mod (step + 1) (2 ^ 64) (length es)
    ∙ ap (λ (n : ℕ). n % (2 ^ 64)) (omega arith)

module _ {F : Type 0} where
  -- from the start so many chosen events lead to this state
  pub record HasRun (order : ℕ → ℕ → ℕ → Type 0) (start : SimData F) (count : ℕ) (now : SimData F) : Type 0 where
    pub events : List Event
    pub number : length events ≡ count
    pub chain : IsChain order start.links start.values start.step events
    pub now_is : now ≡ ran start events

  -- one event after some others
  pub ran-push : (s : SimData F) (events : List Event) (event : Event) → ran (ran s events) (event ∷ []) ≡ ran s (events ++ event ∷ [])
  ran-push s events event = λ i. record {
    pick = s.pick;
    links = s.links;
    values = sym (values_after-push s.values events event) i;
    step = sym (step_after-push s.step events event) i;
  }

  -- events keep one value per net
  pub ran_whole : (s t : SimData F) (events : List Event) → t ≡ ran s events → length t.values ≡ length s.values
  ran_whole s t events e = ap (λ (x : SimData F). length x.values) e ∙ length-values_after s.values events

  -- one more chosen event; P tells of who picks
  pub has_run-more : (P : F → ℕ → ℕ → ℕ → Type 0) (start : SimData F) (count : ℕ) (now new : SimData F) (event : Event)
      → HasRun (P start.pick) start count now → event.step ≡ now.step → IsChosen (P now.pick) now.links now.values event → new ≡ ran now (event ∷ [])
      → HasRun (P start.pick) start (count + 1) new
  has_run-more P start count now new event run at chosen moved = record {
    events = run.events ++ event ∷ [];
    number = length_push run.events event ∙ ap (λ (n : ℕ). n + 1) run.number;
    chain = chain-push (P start.pick) start.links start.values start.step run.events event run.chain (at ∙ ap (λ (s : SimData F). s.step) run.now_is)
        (subst (λ (s : SimData F). IsChosen (P s.pick) s.links s.values event) run.now_is chosen);
    now_is = moved ∙ ap (λ (s : SimData F). ran s (event ∷ [])) run.now_is ∙ ran-push start run.events event;
  }

  -- a settling, with its events, from the start to the new state
  abbrev pub Settles : (ℕ → ℕ → ℕ → Type 0) → SimData F → SimData F → Settled → Type 0
  Settles order start new settled = (events : List Event) × IsSettling order start.links start.values start.step events settled × (new ≡ ran start events)

  pub settles-rest : (order : ℕ → ℕ → ℕ → Type 0) (start : SimData F) (count : ℕ) (now new : SimData F) (settled : Settled)
      → HasRun order start count now → count ≤ most_events start.links → IsResting now.links now.values → new ≡ now → settled ≡ Rest count
      → Settles order start new settled
  settles-rest order start count now new settled run few rest same is = (
    run.events,
    subst (λ (r : Settled). IsSettling order start.links start.values start.step run.events r) (sym is) (
      record {
        chain = run.chain;
        few = omega (arith, run.number, few);
        rest = subst (λ (s : SimData F). IsResting s.links s.values) run.now_is rest;
      },
      sym run.number,
    ),
    same ∙ run.now_is,
  )

  pub settles-unrest : (order : ℕ → ℕ → ℕ → Type 0) (start : SimData F) (count : ℕ) (now new : SimData F) (settled : Settled)
      → HasRun order start count now → count ≡ most_events start.links → (IsResting now.links now.values → ⊥) → new ≡ now → settled ≡ Unsettled count
      → Settles order start new settled
  settles-unrest order start count now new settled run whole unrest same is = (
    run.events,
    subst (λ (r : Settled). IsSettling order start.links start.values start.step run.events r) (sym is) (
      record {
        chain = run.chain;
        count = run.number ∙ whole;
        unrest = subst (λ (s : SimData F). IsResting s.links s.values → ⊥) run.now_is unrest;
      },
      sym run.number,
    ),
    same ∙ run.now_is,
  )
