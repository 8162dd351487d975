-- Subcircuits without the calls of subcircuits that stand for no device.
use Rattle.std.specs.Prelude.{Bool, ◌==◌, not, List, [], ◌∷◌, filter}
use Rattle.deck.specs.Subckts.{Subckt, SubcktPart, Size, part_count, sizes}
use Rattle.subckt_expand.specs.Definitions.{DefinitionData}

-- a part that stands for a device
abbrev pub is_live : List Size → SubcktPart → Bool
is_live above part = not (part_count above part == 0)

-- a subcircuit with these parts alone
abbrev pub live : List Size → Subckt → Subckt
live above s = record { name = s.name; ports = s.ports; parts = filter (is_live above) s.parts }

-- some subcircuits, the nearest first, each with these parts alone
abbrev pub lives : List Subckt → List Subckt
lives [] = []
lives (s ∷ above) = live (sizes above) s ∷ lives above

-- the size of a subcircuit by numbers, as it was counted
abbrev pub size_of : DefinitionData → Size
size_of d = record { name = d.name; ports = d.ports; devices = d.devices; depth = d.depth }
