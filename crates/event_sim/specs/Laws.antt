-- What holds of all chains and settlings.
use Rattle.std.specs.Prelude.{ℕ, ◌≡◌, ◌≤◌, ◌<◌, ◌+◌, ◌%◌, ◌^◌, List, length}
use Rattle.dom_base.specs.declared.tri.Tri.{Tri}
use Rattle.switch_model.specs.LinksData.{LinksData}
use Rattle.event_sim.specs.declared.event.Event.{Event}
use Rattle.event_sim.specs.declared.event.Settled.{Settled}
use Rattle.event_sim.specs.Chains.{IsChain, step_after, values_after}
use Rattle.event_sim.specs.Orders.{By, Follows, first_place, last_place, seeded_place}
use Rattle.switch_model.specs.Pending.{ArePending}
use Rattle.event_sim.specs.Settling.{IsSettling}

-- there is one list of the pending nets by rising number
abbrev pub PendingIsOne : Type 0
PendingIsOne = (links : LinksData) (values : List Tri) (a b : List ℕ)
    → ArePending links values a → ArePending links values b → a ≡ b

-- an order that is a function chooses one chain of each length
abbrev pub ChainIsOne : Type 0
ChainIsOne = (place : ℕ → ℕ → ℕ) (links : LinksData) (values : List Tri) (step : ℕ) (a b : List Event)
    → IsChain (By place) links values step a → IsChain (By place) links values step b
    → length a ≡ length b → a ≡ b

-- an order that is a function has at most one settling, with one answer
abbrev pub SettlingIsOne : Type 0
SettlingIsOne = (place : ℕ → ℕ → ℕ) (links : LinksData) (values : List Tri) (step : ℕ) (a b : List Event) (r s : Settled)
    → IsSettling (By place) links values step a r → IsSettling (By place) links values step b s
    → (a ≡ b) × (r ≡ s)

-- a function that answers below each count of at least 1
abbrev pub IsBelow : (ℕ → ℕ → ℕ) → Type 0
IsBelow place = (step count : ℕ) → 1 ≤ count → place step count < count

-- a function that answers below the count has a settling from each list of values: it leads to rest, or makes as
-- many events as it may without rest
abbrev pub SettlingIsThere : Type 0
SettlingIsThere = (place : ℕ → ℕ → ℕ) (links : LinksData) (values : List Tri) (step : ℕ)
    → IsBelow place → (events : List Event) × ((settled : Settled) × IsSettling (By place) links values step events settled)

-- where the order follows a function its chains and its settlings are those of the function
pub record FollowingIsBy (order : ℕ → ℕ → ℕ → Type 0) : Type 0 where
  pub chain : (place : ℕ → ℕ → ℕ) (links : LinksData) (values : List Tri) (step : ℕ) (events : List Event)
      → Follows place order → step < 2 ^ 64 → length values < 2 ^ 64
      → IsChain order links values step events → IsChain (By place) links values step events
  pub settling : (place : ℕ → ℕ → ℕ) (links : LinksData) (values : List Tri) (step : ℕ) (events : List Event) (settled : Settled)
      → Follows place order → step < 2 ^ 64 → length values < 2 ^ 64
      → IsSettling order links values step events settled → IsSettling (By place) links values step events settled

-- each of the three orders answers below the count
pub record OrdersAreBelow : Type 0 where
  pub first : IsBelow first_place
  pub last : IsBelow last_place
  pub seeded : (seed : ℕ) → IsBelow (seeded_place seed)

-- what some events leave: one value per net, and a step that counts them modulo 2^64
pub record EventsCount : Type 0 where
  pub nets : (values : List Tri) (events : List Event) → length (values_after values events) ≡ length values
  pub steps : (step : ℕ) (events : List Event) → step < 2 ^ 64 → step_after step events ≡ (step + length events) % (2 ^ 64)
