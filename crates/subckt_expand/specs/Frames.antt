-- A subcircuit that is being expanded: the calls that lead to the parts that are read, and the numbers of nets by slots.
use Rattle.std.specs.Prelude.{ℕ, ◌≡◌, ◌<◌, ◌≤◌, ◌+◌, ◌-◌, zero, suc, List, [], ◌∷◌, ◌++◌, length, map, Option, Some, MatchOption}
use Rattle.std.specs.Prelude.{slice_get, slice_index_or, nat_eq}
use Rattle.std.specs.List.{IsDistinct}
use Rattle.std.specs.Cmp.Lexicographic.{pointwise}
use Rattle.deck.specs.declared.device.Device.{Device}
use Rattle.deck.specs.CircuitData.{CircuitData}
use Rattle.deck.specs.NamedDevices.{NamedDevice, with_devices}
use Rattle.deck.specs.Nets.{net_name, net_number, with_net}
use Rattle.deck.specs.Subckts.{passed_net}
use Rattle.subckt_expand.specs.declared.part.LevelName.{LevelName}
use Rattle.subckt_expand.specs.declared.part.Outer.{Outer}
use Rattle.subckt_expand.specs.declared.part.Outer.TheVariants.{Net, Name}
use Rattle.subckt_expand.specs.Definitions.{CallData, DefinitionData, IsCallOf, no_call, port_names}
use Rattle.subckt_expand.specs.Units.{AreUnits, IsCallBelow, UnitData, definition_at, definitions, unit_at}

-- an expansion: the closed subcircuits, the number of the one that is expanded, the calls within one another that lead to the
-- parts that are read, for each call where the names of its inner nets lead, for each level the numbers of nets by slots, and the
-- nets and devices so far
pub record ExpandingData : Type 0 where
  pub units : List UnitData
  pub main : ℕ
  pub calls : List CallData
  pub ways : List LevelName
  pub numbers : List (List (Option ℕ))
  pub nets : List (List ℕ)
  pub devices : List Device

abbrev pub call_at : List CallData → ℕ → CallData
call_at calls level = slice_index_or calls level no_call

-- the number of the subcircuit at a level: the one that is expanded, then those that are called
abbrev pub unit_of : ℕ → List CallData → ℕ → ℕ
unit_of main calls zero = main
unit_of main calls (suc level) = (call_at calls level).unit

-- the subcircuit at a level
abbrev pub definition_of : List DefinitionData → ℕ → List CallData → ℕ → DefinitionData
definition_of all main calls level = definition_at all (unit_of main calls level)

-- the name that a net of the subcircuit called here has in the caller
abbrev pub outer_name : DefinitionData → CallData → DefinitionData → List ℕ → List ℕ
outer_name caller call called own = passed_net call.name (port_names called) (map (net_name caller.nets) call.nets) own

-- the name that a net at a level has in the end: it is renamed outwards level by level
abbrev pub name_at : List DefinitionData → ℕ → List CallData → ℕ → List ℕ → List ℕ
name_at all main calls zero own = own
name_at all main calls (suc level) own =
    name_at all main calls level (outer_name (definition_of all main calls level) (call_at calls level) (definition_of all main calls (suc level)) own)

-- the call of this level stands in the subcircuit of the level before it
pub record IsEntered (all : List DefinitionData) (main : ℕ) (calls : List CallData) (level : ℕ) : Type 0 where
  pub below : IsCallBelow all (length all) (call_at calls level)
  pub nets : IsCallOf (length (definition_of all main calls level).nets) (call_at calls level)

-- what stands for a way that isn't there
abbrev pub no_way : LevelName
no_way = record { level = 0; name = [] }

-- the names of the inner nets of the call of this level lead to this level outwards, with this name of the calls between before them
pub record IsWayOut (all : List DefinitionData) (main : ℕ) (calls : List CallData) (level : ℕ) (way : LevelName) : Type 0 where
  pub outer : way.level ≤ level
  pub same : (own : List ℕ)
      → name_at all main calls level ((call_at calls level).name ++ 46 ∷ own) ≡ name_at all main calls way.level (way.name ++ 46 ∷ own)

-- what holds of an expansion: each number that is kept is that of its net
pub record IsExpanding (e : ExpandingData) : Type 0 where
  pub units : AreUnits e.units
  pub main : e.main < length e.units
  pub rows : length e.numbers ≡ length e.calls + 1
  pub entered : (level : ℕ) → level < length e.calls → IsEntered (definitions e.units) e.main e.calls level
  pub led : length e.ways ≡ length e.calls
  pub ways_are : (level : ℕ) → level < length e.calls
      → IsWayOut (definitions e.units) e.main e.calls level (slice_index_or e.ways level no_way)
  pub apart : IsDistinct (pointwise nat_eq) e.nets
  pub kept : (level slot number : ℕ) → level ≤ length e.calls
      → slice_get (slice_index_or e.numbers level []) slot ≡ Some (Some number)
      → slice_get e.nets number ≡ Some (name_at (definitions e.units) e.main e.calls level
      (net_name (definition_of (definitions e.units) e.main e.calls level).nets
      (slice_index_or (unit_at e.units (unit_of e.main e.calls level)).slots.nets slot 0)))

-- the name in the end of a net by its number at a level
abbrev pub end_name : ExpandingData → ℕ → ℕ → List ℕ
end_name e level net =
    name_at (definitions e.units) e.main e.calls level (net_name (definition_of (definitions e.units) e.main e.calls level).nets net)

-- the same place of an expansion, whatever was numbered
pub record IsSamePlace (before after : ExpandingData) : Type 0 where
  pub units : after.units ≡ before.units
  pub main : after.main ≡ before.main
  pub calls : after.calls ≡ before.calls

-- the nets and devices so far, as a circuit
abbrev pub made : ExpandingData → CircuitData
made e = record { name = []; phases = []; ports = 0; nets = e.nets; devices = e.devices }

-- the name in the end of the net of a slot at a level
abbrev pub slot_name : ExpandingData → ℕ → ℕ → List ℕ
slot_name e level slot = end_name e level (slice_index_or (unit_at e.units (unit_of e.main e.calls level)).slots.nets slot 0)

-- a row of numbers by slots in which none is kept
abbrev pub IsEmpty : List (Option ℕ) → Type 0
IsEmpty row = (slot number : ℕ) → slice_get row slot ≡ Some (Some number) → ⊥

-- a net of this name stands among the nets, at this number
pub record IsNumberOf (nets : List (List ℕ)) (name : List ℕ) (number : ℕ) : Type 0 where
  pub number_is : number ≡ net_number nets name
  pub nets_are : with_net nets name ≡ nets

-- the port that has this name at a level, or none where no port has it
abbrev pub IsPortAt : ExpandingData → ℕ → List ℕ → Option ℕ → Type 0
IsPortAt e level own port = MatchOption port
    ((definition_of (definitions e.units) e.main e.calls level).ports
    ≤ net_number (definition_of (definitions e.units) e.main e.calls level).nets own)
    (λ i. (i ≡ net_number (definition_of (definitions e.units) e.main e.calls level).nets own)
    × (i < (definition_of (definitions e.units) e.main e.calls level).ports))

-- a net outside a level is there: one of the next level outwards by its number, or one of an outer level by its name
abbrev pub IsOuterThere : ExpandingData → ℕ → Outer → Type 0
IsOuterThere e level (Net net) = net < length (definition_of (definitions e.units) e.main e.calls (level - 1)).nets
IsOuterThere e level (Name at) = at.level < level

-- the name that it has in the end
abbrev pub outer_end : ExpandingData → ℕ → Outer → List ℕ
outer_end e level (Net net) = end_name e (level - 1) net
outer_end e level (Name at) = name_at (definitions e.units) e.main e.calls at.level at.name

-- what the net of this name at a level is outwards
abbrev pub IsOuter : ExpandingData → ℕ → List ℕ → Outer → Type 0
IsOuter e level own outer = IsOuterThere e level outer × (name_at (definitions e.units) e.main e.calls level own ≡ outer_end e level outer)

-- these nets and devices are those that devices make, given by names, after these ports
abbrev pub IsMade : List (List ℕ) → List (NamedDevice (List ℕ)) → List (List ℕ) → List Device → Type 0
IsMade ports added nets devices =
    record { name = []; phases = []; ports = 0; nets = nets; devices = devices }
    ≡ with_devices (record { name = []; phases = []; ports = 0; nets = ports; devices = [] }) added
