-- Devices over any type of nets, and the circuit that devices over names make.
use Rattle.std.specs.Prelude.{ℕ, List, [], ◌∷◌}
use Rattle.dom_base.specs.declared.kind.Kind.{Kind}
use Rattle.deck.specs.declared.device.Device.{Device}
use Rattle.deck.specs.CircuitData.{CircuitData}
use Rattle.deck.specs.Nets.{net_name}
use Rattle.deck.specs.Pushes.{pushed}

-- a device whose nets are given by names, by numbers or otherwise
pub record NamedDevice (Net : Type 0) : Type 0 where
  pub kind : Kind
  pub drain : Net
  pub gate : Net
  pub source : Net

-- the device with each net taken to its image
abbrev pub map_device : {Net Image : Type 0} → (Net → Image) → NamedDevice Net → NamedDevice Image
map_device f d = record { kind = d.kind; drain = f d.drain; gate = f d.gate; source = f d.source }

-- the device of a circuit, where the nets are given by numbers
abbrev pub device_of : NamedDevice ℕ → Device
device_of d = record { kind = d.kind; drain = d.drain; gate = d.gate; source = d.source }

-- a device by the names of its nets
abbrev pub named_device : List (List ℕ) → Device → NamedDevice (List ℕ)
named_device nets d = record { kind = d.kind; drain = net_name nets d.drain; gate = net_name nets d.gate; source = net_name nets d.source }

-- the circuit with these devices in turn, given by names: nets are numbered in order of first appearance
abbrev pub with_devices : CircuitData → List (NamedDevice (List ℕ)) → CircuitData
with_devices c [] = c
with_devices c (d ∷ ds) = with_devices (pushed c d.kind d.drain d.gate d.source) ds
