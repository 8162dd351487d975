-- The nets of a group of devices by their numbers, and the devices by the numbers of these.
use Rattle.std.specs.Prelude.{ℕ, ◌≡◌, ◌-◌, List, [], ◌∷◌, ◌++◌, nat_eq, Some, slice_get, length, map, codes}
use Rattle.std.specs.List.{enumerate_from, flat_map, position_or_len, range_with_len}
use Rattle.std.specs.Fmt.{decimal}
use Rattle.indexmap.specs.IndexSet.{insert_all, insert_key}
use Rattle.deck.specs.declared.device.Device.{Device}
use Rattle.deck.specs.Nets.{net_name}
use Rattle.spice_text.specs.Cells.{cell_name, cell_port, same_cell_shape}
use Rattle.spice_text.specs.Text.{deck_line}

-- some nets of a circuit with so many nets
pub record GroupNetsData : Type 0 where
  pub count : ℕ
  pub nets : List ℕ

-- each net of the group stands at its place
abbrev pub HavePlaces : List ℕ → List ℕ → Type 0
HavePlaces nets places = (i n : ℕ) → slice_get nets i ≡ Some n → slice_get places n ≡ Some i

-- the nets, with this one at the end where it is new
abbrev pub with_number : List ℕ → ℕ → List ℕ
with_number nets net = insert_key nat_eq nets net

-- the place of a net, or the number of nets where it is new
abbrev pub place_of : List ℕ → ℕ → ℕ
place_of nets net = position_or_len (nat_eq net) nets

-- the nets after the drain, the gate and the source of a device, in this order
abbrev pub with_ends : List ℕ → Device → List ℕ
with_ends nets d = with_number (with_number (with_number nets d.drain) d.gate) d.source

-- the device by the places of its nets
abbrev pub placed_device : List ℕ → Device → Device
placed_device nets d = record {
  kind = d.kind;
  drain = place_of nets d.drain;
  gate = place_of (with_number nets d.drain) d.gate;
  source = place_of (with_number (with_number nets d.drain) d.gate) d.source;
}

-- the nets after some devices, in order of first appearance
abbrev pub nets_after : List ℕ → List Device → List ℕ
nets_after nets [] = nets
nets_after nets (d ∷ ds) = nets_after (with_ends nets d) ds

-- the devices by the places of their nets
abbrev pub placed_devices : List ℕ → List Device → List Device
placed_devices nets [] = []
placed_devices nets (d ∷ ds) = placed_device nets d ∷ placed_devices (with_ends nets d) ds

-- the supplies of a circuit whose first two ports they are
abbrev pub supply_numbers : List ℕ
supply_numbers = 0 ∷ 1 ∷ []

-- the nets of a group: the supplies, and the others in order of first appearance
abbrev pub group_nets : List Device → List ℕ
group_nets group = nets_after supply_numbers group

-- the shape of a group
abbrev pub placed_group : List Device → List Device
placed_group group = placed_devices supply_numbers group

-- the first ports of subcircuits, the supplies and so many others
abbrev pub first_ports : ℕ → List (List ℕ)
first_ports others = codes "vdd" ∷ codes "vss" ∷ map cell_port (range_with_len 0 others)

abbrev pub ArePorts : List (List ℕ) → Type 0
ArePorts ports = ports ≡ first_ports (length ports - 2)

-- the shapes of groups, each once, in the order of their first groups
abbrev pub placed_shapes : List (List Device) → List (List Device)
placed_shapes groups = insert_all same_cell_shape [] (map placed_group groups)

-- the number of a group's shape
abbrev pub placed_number : List (List Device) → List Device → ℕ
placed_number shapes group = position_or_len (same_cell_shape (placed_group group)) shapes

-- the call of a group's cell, by the numbers of the group and of its shape
abbrev pub placed_call : List (List ℕ) → ℕ → ℕ → List Device → List ℕ
placed_call names index number group = deck_line (codes "x" ++ decimal index)
    (map (net_name names) (group_nets group) ++ cell_name number ∷ [])

-- the calls of groups, the first of which has this number, where these are the shapes
abbrev pub placed_calls : List (List ℕ) → List (List Device) → ℕ → List (List Device) → List ℕ
placed_calls names shapes index groups =
    flat_map (λ (p : ℕ × List Device). placed_call names p.0 (placed_number shapes p.1) p.1) (enumerate_from index groups)
