-- Circuits whose devices are the same but for their order and for exchanged drains and sources (Bryant, A switch-level model and
-- simulator for MOS digital systems, 1984: a transistor is bidirectional).
use Rattle.std.specs.Prelude.{Bool, Contains, List, ℕ, ◌↔◌, ◌⊎◌}
use Rattle.dom_base.specs.declared.tri.Tri.{Tri}
use Rattle.deck.specs.declared.device.Device.{Device}
use Rattle.switch_model.specs.Targets.{EventAt, IsTarget}

-- the device with its ends exchanged
abbrev pub exchange : Device → Device
exchange d = record { kind = d.kind; drain = d.source; gate = d.gate; source = d.drain }

-- each device of the first list is in the second, as it is or exchanged
abbrev pub HasDevicesOf : List Device → List Device → Type 0
HasDevicesOf ds es = (d : Device) → Contains ds d → Contains es d ⊎ Contains es (exchange d)

-- then each net has the same target in both, and the same events
abbrev pub TargetsAgree : Type 0
TargetsAgree =
    (ds es : List Device) → HasDevicesOf ds es → HasDevicesOf es ds → (is_source : ℕ → Bool) (values : List Tri) (net : ℕ) (v : Tri)
    → IsTarget ds is_source values net v ↔ IsTarget es is_source values net v

abbrev pub EventsAgree : Type 0
EventsAgree =
    (ds es : List Device) → HasDevicesOf ds es → HasDevicesOf es ds → (is_source : ℕ → Bool) (net : ℕ) (before after : List Tri)
    → EventAt ds is_source net before after ↔ EventAt es is_source net before after
