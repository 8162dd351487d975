-- Chosen events in turn.
use Rattle.std.specs.Prelude.{ℕ, ◌≡◌, ◌+◌, ◌%◌, ◌^◌, List, [], ◌∷◌, length, Some, slice_get, slice_set}
use Rattle.dom_base.specs.declared.tri.Tri.{Tri}
use Rattle.deck.specs.Switches.{value_of}
use Rattle.switch_model.specs.LinksData.{LinksData}
use Rattle.event_sim.specs.declared.event.Event.{Event}
use Rattle.switch_model.specs.Pending.{ArePending, Targets}

-- one event, the chosen one: the order is asked for the step and the number of pending nets, and the net at the
-- place that it answers, in the list of the pending nets by rising number, takes its target
pub record IsChosen (order : ℕ → ℕ → ℕ → Type 0) (links : LinksData) (values : List Tri) (event : Event) : Type 0 where
  pub nets : List ℕ
  pub pending : ArePending links values nets
  pub place : ℕ
  pub asked : order event.step (length nets) place
  pub net_is : slice_get nets place ≡ Some event.net
  pub before_is : event.before ≡ value_of values event.net
  pub after_is : Targets links values event.net event.after

-- the values after an event: its net has its new value, and no other net changes
abbrev pub changed : List Tri → Event → List Tri
changed values event = slice_set values event.net event.after

-- the values after some events
abbrev pub values_after : List Tri → List Event → List Tri
values_after values [] = values
values_after values (event ∷ events) = values_after (changed values event) events

-- steps count modulo 2^64
abbrev pub next_step : ℕ → ℕ
next_step step = (step + 1) % (2 ^ 64)

-- the step after some events
abbrev pub step_after : ℕ → List Event → ℕ
step_after step [] = step
step_after step (event ∷ events) = step_after (next_step step) events

-- events in turn, each the chosen one, from these values and this step on
abbrev pub IsChain : (ℕ → ℕ → ℕ → Type 0) → LinksData → List Tri → ℕ → List Event → Type 0
IsChain order links values step [] = Unit {0}
IsChain order links values step (event ∷ events) =
    (event.step ≡ step) × IsChosen order links values event × IsChain order links (changed values event) (next_step step) events
