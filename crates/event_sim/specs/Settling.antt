-- Settlings: chosen events up to rest, or as many as there may be.
use Rattle.std.specs.Prelude.{ℕ, ◌≡◌, ◌≤◌, ◌+◌, ◌-◌, ◌*◌, List, length}
use Rattle.dom_base.specs.declared.tri.Tri.{Tri}
use Rattle.switch_model.specs.LinksData.{LinksData}
use Rattle.event_sim.specs.declared.event.Event.{Event}
use Rattle.event_sim.specs.declared.event.Settled.{Settled}
use Rattle.event_sim.specs.declared.event.Settled.TheVariants.{Rest, Unsettled}
use Rattle.event_sim.specs.Chains.{IsChain, values_after}
use Rattle.event_sim.specs.Pending.{IsResting}

-- the most events of one settling: the square of one more than the number of nets that are no sources
abbrev pub most_events : LinksData → ℕ
most_events links = (links.nets - links.sources + 1) * (links.nets - links.sources + 1)

-- chosen events, at most so many, lead to rest
pub record EndsAtRest (order : ℕ → ℕ → ℕ → Type 0) (links : LinksData) (values : List Tri) (step : ℕ) (events : List Event) : Type 0 where
  pub chain : IsChain order links values step events
  pub few : length events ≤ most_events links
  pub rest : IsResting links (values_after values events)

-- so many chosen events do not lead to rest
pub record EndsUnsettled (order : ℕ → ℕ → ℕ → Type 0) (links : LinksData) (values : List Tri) (step : ℕ) (events : List Event)
    : Type 0 where
  pub chain : IsChain order links values step events
  pub count : length events ≡ most_events links
  pub unrest : IsResting links (values_after values events) → ⊥

-- a settling has these events and this answer, which has their number
abbrev pub IsSettling : (ℕ → ℕ → ℕ → Type 0) → LinksData → List Tri → ℕ → List Event → Settled → Type 0
IsSettling order links values step events (Rest k) = EndsAtRest order links values step events × (k ≡ length events)
IsSettling order links values step events (Unsettled k) = EndsUnsettled order links values step events × (k ≡ length events)
