-- The subcircuits that were closed, by numbers, and what they stand for.
use Rattle.std.specs.Prelude.{ℕ, Bool, false, ◌≡◌, ◌<◌, ◌≤◌, List, [], length, map, reverse, take, Option, Some}
use Rattle.std.specs.Prelude.{slice_get, slice_index_or, nat_eq}
use Rattle.std.specs.List.{AllByRecursion, IsDistinct}
use Rattle.std.specs.Cmp.Lexicographic.{pointwise}
use Rattle.deck.specs.Limits.{most_devices, most_ports}
use Rattle.deck.specs.Subckts.{Subckt, Expansion, expansion, expansions}
use Rattle.subckt_expand.specs.Definitions.{CallData, DefinitionData, IsDefinition, has_dotted, no_definition, port_names, subckt_of}

-- the closed subcircuit of this number, where these were closed in turn
abbrev pub definition_at : List DefinitionData → ℕ → DefinitionData
definition_at all number = slice_index_or all number no_definition

-- the names of some closed subcircuits
abbrev pub names_of : List DefinitionData → List (List ℕ)
names_of all = map (λ d. d.name) all

-- those that were closed before the one of this number, by names, the nearest first
abbrev pub subckts_before : List DefinitionData → ℕ → List Subckt
subckts_before all number = reverse (take number (map (subckt_of (names_of all)) all))

-- what the subcircuit of this number stands for
abbrev pub expansion_at : List DefinitionData → ℕ → Expansion
expansion_at all number = expansion (expansions (subckts_before all number)) (subckt_of (names_of all) (definition_at all number))

-- a call names a subcircuit with a number below this one, and passes a net for each of its ports
pub record IsCallBelow (all : List DefinitionData) (number : ℕ) (call : CallData) : Type 0 where
  pub below : call.unit < number
  pub passed : length call.nets ≡ (definition_at all call.unit).ports

-- what holds of a closed subcircuit of this number
pub record IsClosed (all : List DefinitionData) (number : ℕ) (d : DefinitionData) : Type 0 where
  pub whole : IsDefinition d
  pub apart : IsDistinct (pointwise nat_eq) d.nets
  pub calls : AllByRecursion (IsCallBelow all number) d.calls
  pub few_ports : d.ports ≤ most_ports
  pub few_devices : d.devices ≤ most_devices
  pub counted : length (expansion_at all number).devices ≡ d.devices

-- what holds of all closed subcircuits: their names differ, and each calls those before it
pub record AreClosed (all : List DefinitionData) : Type 0 where
  pub each : (number : ℕ) → number < length all → IsClosed all number (definition_at all number)
  pub names_differ : IsDistinct (pointwise nat_eq) (names_of all)

-- for each net of a subcircuit its slot, if a device below names it, and for each slot its net
pub record SlotsData : Type 0 where
  pub of_net : List (Option ℕ)
  pub nets : List ℕ

-- each net that has a slot is the net of that slot
pub record AreSlots (s : SlotsData) : Type 0 where
  pub back : (net slot : ℕ) → slice_get s.of_net net ≡ Some (Some slot) → slice_get s.nets slot ≡ Some net

-- a closed subcircuit, with the slots of its nets, and whether a port has a `.` in its name
pub record UnitData : Type 0 where
  pub definition : DefinitionData
  pub slots : SlotsData
  pub dotted : Bool

abbrev pub no_unit : UnitData
no_unit = record { definition = no_definition; slots = record { of_net = []; nets = [] }; dotted = false }

-- the one of this number
abbrev pub unit_at : List UnitData → ℕ → UnitData
unit_at units number = slice_index_or units number no_unit

abbrev pub definitions : List UnitData → List DefinitionData
definitions units = map (λ u. u.definition) units

-- a subcircuit has slots
abbrev pub HasSlots : UnitData → Type 0
HasSlots u = AreSlots u.slots × (length u.slots.of_net ≡ length u.definition.nets)

-- it is known whether a port has a `.` in its name
abbrev pub IsDotted : UnitData → Type 0
IsDotted u = u.dotted ≡ has_dotted (port_names u.definition)

-- what holds of the closed subcircuits and their slots
pub record AreUnits (units : List UnitData) : Type 0 where
  pub closed : AreClosed (definitions units)
  pub slots : AllByRecursion HasSlots units
  pub dots : AllByRecursion IsDotted units
