-- Which targets a changed net leaves alone.
use Rattle.std.specs.Prelude.{◌≡◌, ◌≢◌, ℕ, Bool, false, List, ◌↔◌}
use Rattle.dom_base.specs.declared.tri.Tri.{Tri}
use Rattle.deck.specs.declared.device.Device.{Device}
use Rattle.deck.specs.Switches.{value_of}
use Rattle.switch_model.specs.Targets.{IsPending, IsTarget}
use Rattle.switch_model.specs.Components.{Touches}

-- two lists of values differ at no net but x
abbrev pub DifferAt : ℕ → List Tri → List Tri → Type 0
DifferAt x before after = (n : ℕ) → n ≢ x → value_of after n ≡ value_of before n

-- where one net's value changes, a net keeps its target unless it is that net or a net, no source, of a component that it touches
abbrev pub KeepsTargetsElsewhere : Type 0
KeepsTargetsElsewhere = (devices : List Device) (is_source : ℕ → Bool) (x : ℕ) (before after : List Tri) (net : ℕ) (v : Tri)
    → DifferAt x before after → net ≢ x → (Touches devices is_source x net → ⊥)
    → IsTarget devices is_source before net v ↔ IsTarget devices is_source after net v

-- and it is pending with one list where it is pending with the other
abbrev pub KeepsPendingElsewhere : Type 0
KeepsPendingElsewhere = (devices : List Device) (is_source : ℕ → Bool) (x : ℕ) (before after : List Tri) (net : ℕ) (v : Tri)
    → DifferAt x before after → net ≢ x → (is_source net ≡ false → Touches devices is_source x net → ⊥)
    → IsPending devices is_source before net v ↔ IsPending devices is_source after net v
