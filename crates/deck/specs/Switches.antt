-- When a device conducts, as in the switch-level model of Bryant.
use Rattle.std.specs.Prelude.{◌≡◌, ◌≢◌, ℕ, List, slice_index_or}
use Rattle.dom_base.specs.Conduction.{conduction}
use Rattle.dom_base.specs.declared.tri.Tri.{Tri}
use Rattle.dom_base.specs.declared.tri.Tri.TheVariants.{Zero, One, Unknown}
use Rattle.deck.specs.declared.device.Device.{Device}

-- the value of a net in a list of values; past the end it is Unknown
abbrev pub value_of : List Tri → ℕ → Tri
value_of values net = slice_index_or values net Unknown

-- the device conducts
abbrev pub IsOn : List Tri → Device → Type 0
IsOn values d = conduction d.kind (value_of values d.gate) ≡ One

-- the device does not conduct
abbrev pub IsOff : List Tri → Device → Type 0
IsOff values d = conduction d.kind (value_of values d.gate) ≡ Zero

-- the device conducts, or may conduct since its gate is Unknown
abbrev pub IsNotOff : List Tri → Device → Type 0
IsNotOff values d = conduction d.kind (value_of values d.gate) ≢ Zero
