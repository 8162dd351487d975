-- Subcircuits as the reader holds them: those without calls as circuits.
use Rattle.std.specs.Prelude.{List, [], ◌∷◌, ◌++◌, length, map, Option, Some, None}
use Rattle.deck.specs.declared.device.Device.{Device}
use Rattle.deck.specs.CircuitData.{CircuitData}
use Rattle.subckt_expand.specs.declared.part.Part.{Part}
use Rattle.subckt_expand.specs.declared.part.Part.TheVariants.{Own}
use Rattle.subckt_expand.specs.Definitions.{DefinitionData}
use Rattle.spice_read.specs.declared.subckt.Subckt.{Subckt}
use Rattle.spice_read.specs.declared.subckt.Subckt.TheVariants.{Flat, Calling}
use Rattle.spice_read.specs.declared.subckts.Last.{Last}
use Rattle.spice_read.specs.declared.subckts.Last.TheVariants.{Before, Open, Closed}
use Rattle.spice_read.specs.ReadSubckts.{CanClose}

-- the part that a device of a circuit is
abbrev pub own_part : Device → Part
own_part d = Own (record { kind = d.kind; drain = d.drain; gate = d.gate; source = d.source })

-- the subcircuit that a circuit is, which calls none
abbrev pub flat_definition : CircuitData → DefinitionData
flat_definition c = record {
  name = c.name;
  ports = c.ports;
  nets = c.nets;
  calls = [];
  parts = map own_part c.devices;
  devices = length c.devices;
  depth = 0;
}

-- a subcircuit by numbers, however it is held
abbrev pub definition_of : Subckt → DefinitionData
definition_of (Flat c) = flat_definition c
definition_of (Calling d) = d

-- the closed subcircuits, with the last one
abbrev pub closed_with : List DefinitionData → Last → List DefinitionData
closed_with units Before = units
closed_with units (Open s) = units
closed_with units (Closed c) = units ++ flat_definition c ∷ []

-- the open one
abbrev pub open_in : Last → Option DefinitionData
open_in Before = None
open_in (Open s) = Some (definition_of s)
open_in (Closed c) = None

-- the last one, where it is closed and still held as a circuit, can stand behind the others
abbrev pub LastFits : List DefinitionData → Last → Type 0
LastFits units Before = Unit {0}
LastFits units (Open s) = Unit {0}
LastFits units (Closed c) = CanClose units (flat_definition c)
