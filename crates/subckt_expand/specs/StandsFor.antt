-- What subcircuits by numbers are by names: subcircuits with the parts that stand for a device, and of the same size.
use Rattle.std.specs.Prelude.{◌≡◌, ◌≤◌, List, length, map, reverse}
use Rattle.std.specs.List.{AllByRecursion}
use Rattle.deck.specs.Limits.{most_devices, most_ports}
use Rattle.deck.specs.Subckts.{Subckt, size, sizes}
use Rattle.subckt_expand.specs.Definitions.{DefinitionData, IsDefinition, subckt_of}
use Rattle.subckt_expand.specs.Live.{live, lives, size_of}
use Rattle.subckt_expand.specs.Units.{IsCallBelow, names_of, subckts_before}

-- the closed subcircuits are these, the nearest first
pub record StandFor (all : List DefinitionData) (ss : List Subckt) : Type 0 where
  pub live_are : subckts_before all (length all) ≡ lives ss
  pub sizes_are : reverse (map size_of all) ≡ sizes ss

-- the open one is this one
pub record StandsFor (all : List DefinitionData) (ss : List Subckt) (d : DefinitionData) (s : Subckt) : Type 0 where
  pub live_is : subckt_of (names_of all) d ≡ live (sizes ss) s
  pub size_is : size_of d ≡ size (sizes ss) s

-- an open subcircuit calls closed ones, and isn't too large
pub record IsOpen (all : List DefinitionData) (d : DefinitionData) : Type 0 where
  pub whole : IsDefinition d
  pub calls : AllByRecursion (IsCallBelow all (length all)) d.calls
  pub few_ports : d.ports ≤ most_ports
  pub few_devices : d.devices ≤ most_devices
