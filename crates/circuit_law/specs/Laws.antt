-- What holds of every circuit and all its events (Bryant, A switch-level model and simulator for MOS digital systems, 1984).
use Rattle.std.specs.List.{AllByRecursion, filter}
use Rattle.std.specs.Prelude.{Bool, List, false, length, ℕ, ◌*◌, ◌+◌, ◌≡◌, ◌≤◌, ◌⊎◌}
use Rattle.dom_base.specs.declared.tri.Tri.{Tri}
use Rattle.deck.specs.declared.device.Device.{Device}
use Rattle.switch_model.specs.Targets.{EventAt, IsAtRest}
use Rattle.circuit_law.specs.Agree.{Agree, ByPaths}
use Rattle.circuit_law.specs.Counts.{Distinct, Events, Gates, IsBetween}

-- a value that the rules of paths give is given where the values agree at gates and sources
abbrev pub SharesRulesOfPaths : Type 0
SharesRulesOfPaths =
    (devices : List Device) (is_source : ℕ → Bool) (values values' : List Tri) → Agree devices is_source values values'
    → (net : ℕ) (v : Tri)
    → ByPaths devices is_source values net (λ w. ⊥) v → ByPaths devices is_source values' net (λ w. ⊥) v

-- no net is pending, or one may have an event
abbrev pub RestsOrHasEvent : Type 0
RestsOrHasEvent =
    (devices : List Device) (is_source : ℕ → Bool) (values : List Tri)
    → IsAtRest devices is_source values ⊎ ((n : ℕ) × (after : List Tri) × EventAt devices is_source n values after)

-- while no net that gates a device has an event, no net has two
abbrev pub QuietOnce : Type 0
QuietOnce =
    (devices : List Device) (is_source : ℕ → Bool) (ns : List ℕ) (before after : List Tri)
    → AllByRecursion (λ m. Gates devices m → ⊥) ns → Events devices is_source ns before after → Distinct ns

-- events of so many nets, where of the nets that a test tells, those that gate a device among them, none has two
abbrev pub EventsAreBounded : Type 0
EventsAreBounded =
    (devices : List Device) (is_source gates : ℕ → Bool) → ((n : ℕ) → gates n ≡ false → Gates devices n → ⊥)
    → (low size : ℕ) (ns : List ℕ) (before after : List Tri) → Events devices is_source ns before after
    → AllByRecursion (IsBetween low size) ns → Distinct (filter gates ns) → length ns ≤ (size + 1) * (size + 1)
