-- Where an order follows a function its chains and settlings are those of the function.
use Rattle.std.proofs.Common.{ℕ, ◌+◌, ◌<◌, ◌≤◌, ◌^◌, List, [], ◌∷◌, length, arith}
use Rattle.std.proofs.lemmas.List.{length-set}
use Rattle.std.proofs.lemmas.Nat.{mod_below}
use Rattle.std.proofs.lemmas.Option.{slice_get_within}
use Rattle.dom_base.specs.declared.tri.Tri.{Tri}
use Rattle.switch_model.specs.LinksData.{LinksData}
use Rattle.event_sim.specs.declared.event.Event.{Event}
use Rattle.event_sim.specs.declared.event.Settled.{Settled}
use Rattle.event_sim.specs.declared.event.Settled.TheVariants.{Rest, Unsettled}
use Rattle.event_sim.specs.Chains.{IsChain, IsChosen, changed, next_step}
use Rattle.event_sim.specs.Laws.{FollowingIsBy}
use Rattle.event_sim.specs.Orders.{By, Follows}
use Rattle.switch_model.specs.Pending.{ArePending}
use Rattle.event_sim.specs.Settling.{IsSettling}
use Rattle.switch_model.proofs.RisingLists.{rising_is_short}

-- there are no more pending nets than values
pub pending_is_short : (links : LinksData) (values : List Tri) (nets : List ℕ) → ArePending links values nets → length nets ≤ length values
pending_is_short links values nets pending =
    rising_is_short (length values) nets pending.rising (λ n at. ((pending.exact n).0 at).0)

chosen_by : (place : ℕ → ℕ → ℕ) (order : ℕ → ℕ → ℕ → Type 0) (links : LinksData) (values : List Tri) (event : Event)
    → Follows place order → event.step < 2 ^ 64 → length values < 2 ^ 64 → IsChosen order links values event → IsChosen (By place) links values event
chosen_by place order links values event follows fits few chosen = record {
  nets = chosen.nets;
  pending = chosen.pending;
  place = chosen.place;
  asked = follows event.step (length chosen.nets) chosen.place fits (omega (arith, slice_get_within chosen.nets chosen.place event.net chosen.net_is))
      (omega (arith, few, pending_is_short links values chosen.nets chosen.pending)) chosen.asked;
  net_is = chosen.net_is;
  before_is = chosen.before_is;
  after_is = chosen.after_is;
}

-- where the order follows a function its chains are those of the function
pub chain_by : (place : ℕ → ℕ → ℕ) (order : ℕ → ℕ → ℕ → Type 0) (links : LinksData) (values : List Tri) (step : ℕ) (events : List Event)
    → Follows place order → step < 2 ^ 64 → length values < 2 ^ 64 → IsChain order links values step events → IsChain (By place) links values step events
chain_by place order links values step [] follows fits few chain = tt
chain_by place order links values step (e ∷ es) follows fits few chain = (
  chain.0,
  chosen_by place order links values e follows (omega (arith, chain.0, fits)) few chain.1,
  chain_by place order links (changed values e) (next_step step) es follows (mod_below (step + 1) (2 ^ 64) (omega arith))
      (omega (arith, few, length-set values e.net e.after)) chain.2,
)

-- and so are its settlings
pub settling_by : (place : ℕ → ℕ → ℕ) (order : ℕ → ℕ → ℕ → Type 0) (links : LinksData) (values : List Tri) (step : ℕ) (events : List Event) (settled : Settled)
    → Follows place order → step < 2 ^ 64 → length values < 2 ^ 64 → IsSettling order links values step events settled → IsSettling (By place) links values step events settled
settling_by place order links values step events (Rest k) follows fits few h =
    (record { chain = chain_by place order links values step events follows fits few h.0.chain; few = h.0.few; rest = h.0.rest }, h.1)
settling_by place order links values step events (Unsettled k) follows fits few h =
    (record { chain = chain_by place order links values step events follows fits few h.0.chain; count = h.0.count; unrest = h.0.unrest }, h.1)

pub following_is_by : (order : ℕ → ℕ → ℕ → Type 0) → FollowingIsBy order
following_is_by order = record {
  chain = λ place links values step events. chain_by place order links values step events;
  settling = λ place links values step events settled. settling_by place order links values step events settled;
}
