-- The numbers of nets, and what holds of every circuit.
use Rattle.std.specs.Prelude.{ℕ, ◌+◌, ◌<◌, ◌≤◌, ◌≡◌, max, List, [], ◌∷◌, length, nat_eq, slice_index_or}
use Rattle.std.specs.Cmp.Lexicographic.{pointwise}
use Rattle.std.specs.List.{position_or_len, IsDistinct}
use Rattle.indexmap.specs.IndexSet.{insert_key}
use Rattle.deck.specs.declared.device.Device.{Device}
use Rattle.deck.specs.Limits.{most_devices, most_ports}

-- the number of a net, or the number of nets where the name is new
abbrev pub net_number : List (List ℕ) → List ℕ → ℕ
net_number nets name = position_or_len (pointwise nat_eq name) nets

-- the name of a net by its number
abbrev pub net_name : List (List ℕ) → ℕ → List ℕ
net_name nets net = slice_index_or nets net []

-- the nets, with this one at the end where it is new
abbrev pub with_net : List (List ℕ) → List ℕ → List (List ℕ)
with_net nets name = insert_key (pointwise nat_eq) nets name

-- the nets after the drain, the gate and the source of a device, in this order
abbrev pub with_nets : List (List ℕ) → List ℕ → List ℕ → List ℕ → List (List ℕ)
with_nets nets d g s = with_net (with_net (with_net nets d) g) s

-- the net numbers that devices name, in order: drain before gate before source
abbrev pub ends : List Device → List ℕ
ends [] = []
ends (d ∷ ds) = d.drain ∷ d.gate ∷ d.source ∷ ends ds

-- the nets of a device are among so many nets
pub record IsInRange (nets : ℕ) (device : Device) : Type 0 where
  pub drain : device.drain < nets
  pub gate : device.gate < nets
  pub source : device.source < nets

-- where the numbers below n stand already, each further number is at most the next new one:
-- nets are numbered in order of first appearance
abbrev pub IsNumbered : ℕ → List ℕ → Type 0
IsNumbered n [] = Unit {0}
IsNumbered n (e ∷ es) = (e ≤ n) × IsNumbered (max n (e + 1)) es

-- how many numbers stand in the end
abbrev pub numbers_used : ℕ → List ℕ → ℕ
numbers_used n [] = n
numbers_used n (e ∷ es) = numbers_used (max n (e + 1)) es

-- what holds of every circuit: the limits, no net twice, the ports first, and the other nets
-- in order of first appearance over the devices
pub record IsCircuit (ports : ℕ) (nets : List (List ℕ)) (devices : List Device) : Type 0 where
  pub few_ports : ports ≤ most_ports
  pub few_devices : length devices ≤ most_devices
  pub distinct : IsDistinct (pointwise nat_eq) nets
  pub in_order : IsNumbered ports (ends devices)
  pub all_used : length nets ≡ numbers_used ports (ends devices)
