-- Names of nets that have a number, and devices by the numbers of their nets.
use Rattle.std.specs.Prelude.{◌≡◌, ℕ, List, Some, slice_get}
use Rattle.deck.specs.NamedDevices.{NamedDevice, device_of, map_device}
use Rattle.deck.specs.Nets.{net_number}
use Rattle.deck.specs.declared.device.Device.{Device}

-- the name stands among the nets, at its number
abbrev pub HasNumber : List (List ℕ) → List ℕ → Type 0
HasNumber nets name = slice_get nets (net_number nets name) ≡ Some name

-- the device by the numbers of its nets
abbrev pub numbered_device : List (List ℕ) → NamedDevice (List ℕ) → Device
numbered_device nets d = device_of (map_device (net_number nets) d)

-- each net of the device has a number
abbrev pub IsNumberedDevice : List (List ℕ) → NamedDevice (List ℕ) → Type 0
IsNumberedDevice nets d = HasNumber nets d.drain × HasNumber nets d.gate × HasNumber nets d.source
