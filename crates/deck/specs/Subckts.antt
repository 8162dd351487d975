-- Subcircuits of a deck: what the call of one stands for, how many devices it has, and how deep it is (SPICE subcircuits and X cards).
use Rattle.std.specs.Prelude.{ℕ, ◌+◌, max, nat_eq, if◌then◌else◌, List, [], ◌∷◌, ◌++◌, length, map, find, fold, sum_by, Option, Some, None}
use Rattle.std.specs.List.{flat_map}
use Rattle.std.specs.Cmp.Lexicographic.{pointwise}
use Rattle.deck.specs.NamedDevices.{NamedDevice, map_device}

-- the call of a subcircuit: its own name, the nets that are passed, and the name of the subcircuit
pub record Call : Type 0 where
  pub name : List ℕ
  pub nets : List (List ℕ)
  pub unit : List ℕ

-- a part of a subcircuit: a device, or the call of a subcircuit above
pub data SubcktPart : Type 0 where
  Single : NamedDevice (List ℕ) → SubcktPart
  Called : Call → SubcktPart

-- a subcircuit: its name, its ports, and its parts in the order of their cards
pub record Subckt : Type 0 where
  pub name : List ℕ
  pub ports : List (List ℕ)
  pub parts : List SubcktPart

-- Where several subcircuits are given, the nearest comes first: that of the last `.ends`.

-- the net that stands for a net of a called subcircuit: for a port the net that is passed, for any other the name of the call,
-- `.` and its own name
abbrev pub passed_net : List ℕ → List (List ℕ) → List (List ℕ) → List ℕ → List ℕ
passed_net call (port ∷ ports) (net ∷ nets) own = if pointwise nat_eq port own then net else passed_net call ports nets own
passed_net call _ _ own = call ++ 46 ∷ own

-- a subcircuit with the devices that it stands for
pub record Expansion : Type 0 where
  pub name : List ℕ
  pub ports : List (List ℕ)
  pub devices : List (NamedDevice (List ℕ))

-- the devices of a call, where the subcircuit that it names is this one
abbrev pub call_devices : Call → Option Expansion → List (NamedDevice (List ℕ))
call_devices call None = []
call_devices call (Some e) = map (map_device (passed_net call.name e.ports call.nets)) e.devices

-- the devices that a part stands for
abbrev pub part_devices : List Expansion → SubcktPart → List (NamedDevice (List ℕ))
part_devices above (Single device) = device ∷ []
part_devices above (Called call) = call_devices call (find (λ e. pointwise nat_eq call.unit e.name) above)

-- a subcircuit expanded, over those above it
abbrev pub expansion : List Expansion → Subckt → Expansion
expansion above s = record { name = s.name; ports = s.ports; devices = flat_map (part_devices above) s.parts }

-- some subcircuits expanded, each over those above it
abbrev pub expansions : List Subckt → List Expansion
expansions [] = []
expansions (s ∷ above) = expansion (expansions above) s ∷ expansions above

-- how large a subcircuit is: its name, how many ports it has, how many devices it stands for, and its depth
pub record Size : Type 0 where
  pub name : List ℕ
  pub ports : ℕ
  pub devices : ℕ
  pub depth : ℕ

-- the size of the subcircuit of this name, if it stands above
abbrev pub size_named : List ℕ → List Size → Option Size
size_named name above = find (λ s. pointwise nat_eq name s.name) above

abbrev pub devices_in : Option Size → ℕ
devices_in None = 0
devices_in (Some s) = s.devices

-- the depth of a subcircuit that calls this one
abbrev pub depth_over : Option Size → ℕ
depth_over None = 0
depth_over (Some s) = 1 + s.depth

-- how many devices a part stands for
abbrev pub part_count : List Size → SubcktPart → ℕ
part_count above (Single device) = 1
part_count above (Called call) = devices_in (size_named call.unit above)

-- the depth that a part gives
abbrev pub part_depth : List Size → SubcktPart → ℕ
part_depth above (Single device) = 0
part_depth above (Called call) = depth_over (size_named call.unit above)

-- the size of a subcircuit, by the sizes of those above it: nothing is expanded
abbrev pub size : List Size → Subckt → Size
size above s = record {
  name = s.name;
  ports = length s.ports;
  devices = sum_by (part_count above) s.parts;
  depth = fold max 0 (map (part_depth above) s.parts);
}

-- the sizes of some subcircuits
abbrev pub sizes : List Subckt → List Size
sizes [] = []
sizes (s ∷ above) = size (sizes above) s ∷ sizes above
