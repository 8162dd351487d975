-- The nets of a circuit to which devices are appended: those of before keep their numbers, and new ones stand behind them.
use Rattle.std.proofs.Common.{◌≡◌, ℕ, ◌<◌, ◌≤◌, ◌&&◌, false, not, true, List, [], ◌++◌, length, map, sym, ap, ◌∙◌, inl, inr, arith, nat_eq, nat_lt}
use Rattle.std.specs.Prelude.{◌⊎◌, Contains, codes}
use Rattle.std.specs.Cmp.Lexicographic.{pointwise}
use Rattle.std.specs.List.{starts_with}
use Rattle.std.proofs.lemmas.List.Elements.{recursion_from_All}
use Rattle.std.proofs.lemmas.Option.{get_or_from_slice_get, slice_get_within}
use Rattle.dom_base.proofs.Lists.{AllByRecursion-contains}
use Rattle.deck.specs.CircuitData.{CircuitData}
use Rattle.deck.specs.NamedDevices.{NamedDevice, device_of, map_device, with_devices}
use Rattle.deck.specs.Nets.{IsCircuit, IsInRange, net_number}
use Rattle.deck.specs.NumberedDevices.{HasNumber}
use Rattle.deck.specs.Sources.{is_source}
use Rattle.deck.specs.declared.device.Device.{Device}
use Rattle.deck.proofs.CircuitGrowth.{with_devices-devices, with_devices-grew}
use Rattle.deck.proofs.DeviceNumbers.{IsCircuit-in_range, IsCircuit-ports}
use Rattle.deck.proofs.NetNumbers.{HasNumber-append, HasNumber-below, net_number-append, net_number-behind, number_cases}
use Rattle.domino_cell.specs.PushedNames.{IsNewNet, IsPort}
use Rattle.domino_cell.proofs.NamedCells.{is_source-inside, is_source-port, map_numbered_device}

-- a name is that of a net, or new
pub kept_or_new : (c : CircuitData) (name : List ℕ) → HasNumber c.nets name ⊎ IsNewNet c name
kept_or_new c name = elim (number_cases (pointwise nat_eq name) c.nets) [ inl h ↦ inl (HasNumber-below c.nets name h.1) | inr h ↦ inr h.0 ]

module _ (c : CircuitData) (cards : List (NamedDevice (List ℕ))) (circuit : IsCircuit c.ports c.nets c.devices) where
  abbrev pub appended : CircuitData
  appended = with_devices c cards

  ports_low : c.ports ≤ length c.nets
  ports_low = IsCircuit-ports c.ports c.nets c.devices circuit

  pub HasNumber-port : (name : List ℕ) → IsPort c name → HasNumber c.nets name
  HasNumber-port name port = HasNumber-below c.nets name (omega (arith, port, ports_low))

  -- a net of before
  pub old_number : (name : List ℕ) → HasNumber c.nets name → net_number appended.nets name ≡ net_number c.nets name
  old_number name at =
      let grew = with_devices-grew c cards in
      ap (λ l. net_number l name) grew.nets ∙ net_number-append c.nets grew.more_nets name at

  pub HasNumber-old : (name : List ℕ) → HasNumber c.nets name → HasNumber appended.nets name
  HasNumber-old name at =
      let grew = with_devices-grew c cards in
      rw grew.nets (HasNumber-append c.nets grew.more_nets name at)

  pub old_below : (name : List ℕ) → HasNumber c.nets name → net_number appended.nets name < length c.nets
  old_below name at = omega (arith, old_number name at, slice_get_within c.nets (net_number c.nets name) name at)

  -- a port
  pub port_below : (name : List ℕ) → IsPort c name → net_number appended.nets name < appended.ports
  port_below name port = omega (arith, old_number name (HasNumber-port name port), port, (with_devices-grew c cards).ports)

  pub port_is_source : (name : List ℕ) → IsPort c name → starts_with nat_eq name (codes "o_") ≡ false → is_source appended (net_number appended.nets name) ≡ true
  port_is_source name port no_output =
      is_source-port appended (net_number appended.nets name) name (port_below name port) (HasNumber-old name (HasNumber-port name port)) no_output

  -- a net of before is a source where it was one
  pub old_source : (name : List ℕ) → HasNumber c.nets name → is_source appended (net_number appended.nets name) ≡ is_source c (net_number c.nets name)
  old_source name at =
      let number = old_number name at in
      let ports = (with_devices-grew c cards).ports in
      let new_name = get_or_from_slice_get appended.nets (net_number appended.nets name) name [] (HasNumber-old name at) in
      let old_name = get_or_from_slice_get c.nets (net_number c.nets name) name [] at in
      λ i. nat_lt (number i) (ports i) && not (starts_with nat_eq ((new_name ∙ sym old_name) i) (codes "o_"))

  -- a new net
  pub new_behind : (name : List ℕ) → IsNewNet c name → length c.nets ≤ net_number appended.nets name
  new_behind name new =
      let grew = with_devices-grew c cards in
      let same : net_number appended.nets name ≡ net_number (c.nets ++ grew.more_nets) name = ap (λ l. net_number l name) grew.nets in
      omega (arith, same, net_number-behind c.nets grew.more_nets name new)

  pub behind_no_source : (n : ℕ) → length c.nets ≤ n → is_source appended n ≡ false
  behind_no_source n behind = is_source-inside appended n (omega (arith, behind, ports_low, (with_devices-grew c cards).ports))

  -- a device of before ends at nets of before
  pub old_in_range : (d : Device) → Contains c.devices d → IsInRange (length c.nets) d
  old_in_range d has =
      AllByRecursion-contains (IsInRange (length c.nets)) c.devices d
      (recursion_from_All (IsInRange (length c.nets)) c.devices (IsCircuit-in_range c.ports c.nets c.devices circuit)) has

  -- the devices: those of before, and then the appended ones by the numbers of their nets
  pub devices_behind : appended.devices ≡ c.devices ++ map device_of (map (map_device (net_number appended.nets)) cards)
  devices_behind = with_devices-devices c cards ∙ ap (λ ds. c.devices ++ ds) (map_numbered_device appended.nets cards)
