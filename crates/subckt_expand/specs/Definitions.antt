-- Subcircuits by numbers: each net of a subcircuit has a number there, its ports the first ones.
use Rattle.std.specs.Prelude.{ℕ, Bool, ◌<◌, ◌≤◌, ◌+◌, ◌==◌, max, if◌then◌else◌, List, [], ◌∷◌, ◌++◌, length, map, take, slice_index_or}
use Rattle.std.specs.List.{AllByRecursion, list_any}
use Rattle.dom_base.specs.declared.kind.Kind.{Kind}
use Rattle.deck.specs.NamedDevices.{NamedDevice}
use Rattle.deck.specs.Nets.{net_name, net_number, with_net, with_nets}
use Rattle.deck.specs.Subckts.{SubcktPart, Single, Called, Subckt}
use Rattle.subckt_expand.specs.declared.part.LocalDevice.{LocalDevice}
use Rattle.subckt_expand.specs.declared.part.Part.{Part}
use Rattle.subckt_expand.specs.declared.part.Part.TheVariants.{Own, Called as Calling}

-- the call of a subcircuit: its own name, the number of the subcircuit, and the numbers of the nets that are passed
pub record CallData : Type 0 where
  pub name : List ℕ
  pub unit : ℕ
  pub nets : List ℕ

-- a subcircuit by numbers: its name, how many ports it has, its nets, its calls of subcircuits with devices, its devices and these
-- calls in the order of their cards, how many devices it stands for, and its depth
pub record DefinitionData : Type 0 where
  pub name : List ℕ
  pub ports : ℕ
  pub nets : List (List ℕ)
  pub calls : List CallData
  pub parts : List Part
  pub devices : ℕ
  pub depth : ℕ

-- what stands for a number that is none
abbrev pub no_call : CallData
no_call = record { name = []; unit = 0; nets = [] }

abbrev pub no_definition : DefinitionData
no_definition = record { name = []; ports = 0; nets = []; calls = []; parts = []; devices = 0; depth = 0 }

-- a device by the names of its nets
abbrev pub named_local : List (List ℕ) → LocalDevice → NamedDevice (List ℕ)
named_local nets d = record { kind = d.kind; drain = net_name nets d.drain; gate = net_name nets d.gate; source = net_name nets d.source }

-- a call by names, where these are the names of the subcircuits
abbrev pub named_call : List (List ℕ) → List (List ℕ) → CallData → SubcktPart
named_call names nets call = Called (record { name = call.name; nets = map (net_name nets) call.nets; unit = net_name names call.unit })

-- a part by names
abbrev pub named_part : List (List ℕ) → DefinitionData → Part → SubcktPart
named_part names d (Own device) = Single (named_local d.nets device)
named_part names d (Calling index) = named_call names d.nets (slice_index_or d.calls index no_call)

-- the names of the ports
abbrev pub port_names : DefinitionData → List (List ℕ)
port_names d = take d.ports d.nets

-- a name with a `.`, as an inner net of a call has one
abbrev pub has_dot : List ℕ → Bool
has_dot name = list_any (λ byte. byte == 46) name

-- names of which one has a `.`
abbrev pub has_dotted : List (List ℕ) → Bool
has_dotted names = list_any has_dot names

-- a subcircuit by names
abbrev pub subckt_of : List (List ℕ) → DefinitionData → Subckt
subckt_of names d = record { name = d.name; ports = port_names d; parts = map (named_part names d) d.parts }

-- the nets of a device are among so many
pub record IsLocal (nets : ℕ) (device : LocalDevice) : Type 0 where
  pub drain : device.drain < nets
  pub gate : device.gate < nets
  pub source : device.source < nets

-- the nets of a device, or the call, are there
abbrev pub IsPartOf : ℕ → ℕ → Part → Type 0
IsPartOf nets calls (Own device) = IsLocal nets device
IsPartOf nets calls (Calling index) = index < calls

-- the nets of a call are among so many
abbrev pub IsCallOf : ℕ → CallData → Type 0
IsCallOf nets call = AllByRecursion (λ net. net < nets) call.nets

-- what holds of a subcircuit by numbers: all that it names is there
pub record IsDefinition (d : DefinitionData) : Type 0 where
  pub few_ports : d.ports ≤ length d.nets
  pub parts_are : AllByRecursion (IsPartOf (length d.nets) (length d.calls)) d.parts
  pub calls_are : AllByRecursion (IsCallOf (length d.nets)) d.calls

-- the subcircuit that is opened with these ports
abbrev pub opened : List ℕ → List (List ℕ) → DefinitionData
opened name ports = record { name = name; ports = length ports; nets = ports; calls = []; parts = []; devices = 0; depth = 0 }

-- a device between nets of these names, where a net that is new takes the next number
abbrev pub local_device : List (List ℕ) → Kind → List ℕ → List ℕ → List ℕ → LocalDevice
local_device nets kind d g s = record {
  kind = kind;
  drain = net_number nets d;
  gate = net_number (with_net nets d) g;
  source = net_number (with_net (with_net nets d) g) s;
}

-- the subcircuit with one more device
abbrev pub with_device : DefinitionData → Kind → List ℕ → List ℕ → List ℕ → DefinitionData
with_device c kind d g s = record c {
  nets = with_nets c.nets d g s;
  parts = c.parts ++ Own (local_device c.nets kind d g s) ∷ [];
  devices = c.devices + 1;
}

-- the subcircuit with one more call, of a subcircuit with so many devices and of this depth; without devices it counts for the
-- depth alone
abbrev pub with_call : DefinitionData → CallData → ℕ → ℕ → DefinitionData
with_call c call devices depth = if devices == 0 then record c { depth = max c.depth (depth + 1) } else record c {
  calls = c.calls ++ call ∷ [];
  parts = c.parts ++ Calling (length c.calls) ∷ [];
  devices = c.devices + devices;
  depth = max c.depth (depth + 1);
}
