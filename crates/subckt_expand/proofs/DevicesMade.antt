-- A device of a subcircuit that is expanded, by the numbers that its nets get in turn.
use Rattle.std.proofs.Common.{◌≡◌, ◌<◌, ℕ, ◌+◌, ◌^◌, [], ◌∷◌, ◌++◌, length, Some, slice_get, sym, ap, ◌∙◌}
use Rattle.deck.specs.NamedDevices.{map_device, with_devices}
use Rattle.deck.specs.Nets.{net_name, net_number, with_net, with_nets}
use Rattle.deck.specs.Numbers.{AreNumbersOf}
use Rattle.deck.proofs.DeviceNumbers.{numbers_fit}
use Rattle.deck.proofs.NetNumbers.{slice_get-with_net}
use Rattle.subckt_expand.specs.declared.part.LocalDevice.{LocalDevice}
use Rattle.subckt_expand.specs.Definitions.{named_local}
use Rattle.subckt_expand.specs.Units.{definitions}
use Rattle.subckt_expand.specs.Frames.{ExpandingData, IsSamePlace, definition_of, end_name, made, name_at}

-- a net has the same name in the end at the same place
pub same_end : (a b : ExpandingData) → IsSamePlace a b → (level net : ℕ) → end_name b level net ≡ end_name a level net
same_end a b p level net = λ i. name_at (definitions (p.units i)) (p.main i) (p.calls i) level (net_name (definition_of (definitions (p.units i)) (p.main i) (p.calls i) level).nets net)

-- a net that was numbered stands at its number
pub noted : (a b : ExpandingData) (level net number : ℕ) → IsSamePlace a b → b.nets ≡ with_net a.nets (end_name a level net) → number ≡ net_number a.nets (end_name a level net)
    → slice_get b.nets number ≡ Some (end_name b level net)
noted a b level net number place nets number_is =
    (λ i. slice_get (nets i) (number_is i)) ∙ slice_get-with_net a.nets (end_name a level net) ∙ ap Some (sym (same_end a b place level net))

-- the nets of a device are numbered in turn
pub record IsNumbering (e0 e1 e2 e3 : ExpandingData) (level : ℕ) (device : LocalDevice) (drain gate source : ℕ) : Type 0 where
  pub place_1 : IsSamePlace e0 e1
  pub place_2 : IsSamePlace e1 e2
  pub nets_1 : e1.nets ≡ with_net e0.nets (end_name e0 level device.drain)
  pub nets_2 : e2.nets ≡ with_net e1.nets (end_name e1 level device.gate)
  pub nets_3 : e3.nets ≡ with_net e2.nets (end_name e2 level device.source)
  pub drain_is : drain ≡ net_number e0.nets (end_name e0 level device.drain)
  pub gate_is : gate ≡ net_number e1.nets (end_name e1 level device.gate)
  pub source_is : source ≡ net_number e2.nets (end_name e2 level device.source)

module _ (e0 e1 e2 e3 : ExpandingData) (level : ℕ) (device : LocalDevice) (drain gate source : ℕ) (n : IsNumbering e0 e1 e2 e3 level device drain gate source) where
  gate_end : end_name e1 level device.gate ≡ end_name e0 level device.gate
  gate_end = same_end e0 e1 n.place_1 level device.gate

  source_end : end_name e2 level device.source ≡ end_name e0 level device.source
  source_end = same_end e1 e2 n.place_2 level device.source ∙ same_end e0 e1 n.place_1 level device.source

  second : e2.nets ≡ with_net (with_net e0.nets (end_name e0 level device.drain)) (end_name e0 level device.gate)
  second = n.nets_2 ∙ (λ i. with_net (n.nets_1 i) (gate_end i))

  third : e3.nets ≡ with_nets e0.nets (end_name e0 level device.drain) (end_name e0 level device.gate) (end_name e0 level device.source)
  third = n.nets_3 ∙ (λ i. with_net (second i) (source_end i))

  numbers : AreNumbersOf e0.nets (end_name e0 level device.drain) (end_name e0 level device.gate) (end_name e0 level device.source) (drain, gate, source)
  numbers = (n.drain_is, n.gate_is ∙ (λ i. net_number (n.nets_1 i) (gate_end i)), n.source_is ∙ (λ i. net_number (second i) (source_end i)))

  pub numbers_small : length e0.nets + 3 < 2 ^ 32 → (drain < 2 ^ 32) × (gate < 2 ^ 32) × (source < 2 ^ 32)
  numbers_small few = numbers_fit e0.nets (end_name e0 level device.drain) (end_name e0 level device.gate) (end_name e0 level device.source) (drain, gate, source) few numbers

  pub device_made : (next : ExpandingData) → next.nets ≡ e3.nets → next.devices ≡ e0.devices ++ record { kind = device.kind; drain = drain; gate = gate; source = source } ∷ []
      → made next ≡ with_devices (made e0) (map_device (name_at (definitions e0.units) e0.main e0.calls level) (named_local (definition_of (definitions e0.units) e0.main e0.calls level).nets device) ∷ [])
  device_made next nets devices =
      let all_nets = nets ∙ third in
      let items = devices ∙ (λ i. e0.devices ++ record { kind = device.kind; drain = numbers.0 i; gate = numbers.1 i; source = numbers.2 i } ∷ []) in
      λ i. record { name = []; phases = []; ports = 0; nets = all_nets i; devices = items i }
