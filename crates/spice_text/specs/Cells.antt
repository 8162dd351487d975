-- The text of a circuit by its cells: one SPICE subcircuit for each shape of a group of devices, and an X card for each group.
use Rattle.std.specs.Prelude.{ℕ, ◌≡◌, ◌≤◌, ◌<◌, ◌-◌, Bool, false, ◌&&◌, nat_eq, List, [], ◌∷◌, ◌++◌, length, map, take, drop, codes, All}
use Rattle.std.specs.List.{flat_map, enumerate_from, position_or_len, range_with_len, starts_with}
use Rattle.std.specs.Cmp.Lexicographic.{pointwise}
use Rattle.std.specs.Fmt.{decimal}
use Rattle.indexmap.specs.IndexSet.{insert_all}
use Rattle.deck.specs.declared.device.Device.{Device}
use Rattle.deck.specs.CircuitData.{CircuitData}
use Rattle.deck.specs.DeckText.{model_word, bare_circuit, HasNoEquals, IsGoodCircuit}
use Rattle.deck.specs.Limits.{most_ports}
use Rattle.deck.specs.NamedDevices.{named_device, with_devices}
use Rattle.deck.specs.Nets.{ends, numbers_used}
use Rattle.deck.specs.Ports.{leading_ports, HasRoles}
use Rattle.spice_text.specs.Text.{deck_line, phase_line, plus_lines, device_cards}

abbrev pub supplies : List (List ℕ)
supplies = codes "vdd" ∷ codes "vss" ∷ []

-- the groups of devices that end at these places, where the devices begin at this one
abbrev pub groups_from : ℕ → List ℕ → List Device → List (List Device)
groups_from start [] devices = []
groups_from start (place ∷ places) devices = take (place - start) devices ∷ groups_from place places (drop (place - start) devices)

-- the cell of a group: the circuit of its devices whose ports are the supplies, so its nets are `vdd`, `vss` and the
-- group's other nets in order of first appearance
abbrev pub group_cell : List (List ℕ) → List Device → CircuitData
group_cell nets group = with_devices (bare_circuit [] [] supplies) (map (named_device nets) group)

-- the shape of a group: the devices of its cell, by the numbers of its nets
abbrev pub group_shape : List (List ℕ) → List Device → List Device
group_shape nets group = (group_cell nets group).devices

abbrev pub same_device : Device → Device → Bool
same_device a b =
    pointwise nat_eq (model_word a.kind) (model_word b.kind)
    && nat_eq a.drain b.drain && nat_eq a.gate b.gate && nat_eq a.source b.source

-- two shapes are the same
abbrev pub same_cell_shape : List Device → List Device → Bool
same_cell_shape a b = pointwise same_device a b

-- the shapes of some groups, each once, in the order of their first groups
abbrev pub shapes_of : List (List ℕ) → List (List Device) → List (List Device)
shapes_of nets groups = insert_all same_cell_shape [] (map (group_shape nets) groups)

-- the name of the subcircuit of a shape
abbrev pub cell_name : ℕ → List ℕ
cell_name number = codes "cell-" ++ decimal number

abbrev pub cell_port : ℕ → List ℕ
cell_port number = codes "p" ++ decimal number

-- the ports of the subcircuit of a shape, which are all its nets: the supplies, and `p0`, `p1` and so on
abbrev pub cell_ports : List Device → List (List ℕ)
cell_ports shape = codes "vdd" ∷ codes "vss" ∷ map cell_port (range_with_len 0 (numbers_used 2 (ends shape) - 2))

-- the subcircuit of a shape, by its number
abbrev pub cell_lines : ℕ × List Device → List ℕ
cell_lines p =
    deck_line (codes ".subckt") (cell_name p.0 ∷ cell_ports p.1)
    ++ device_cards (cell_ports p.1) p.1
    ++ deck_line (codes ".ends") (cell_name p.0 ∷ [])

-- the number of a group's shape
abbrev pub shape_number : List (List ℕ) → List (List Device) → List Device → ℕ
shape_number nets shapes group = position_or_len (same_cell_shape (group_shape nets group)) shapes

-- the call of a group's cell, by the number of the group: `vdd vss` and the group's other nets are passed
abbrev pub call_line : List (List ℕ) → List (List Device) → ℕ × List Device → List ℕ
call_line nets shapes p =
    deck_line (codes "x" ++ decimal p.0) ((group_cell nets p.1).nets ++ cell_name (shape_number nets shapes p.1) ∷ [])

abbrev pub call_lines : List (List ℕ) → List (List Device) → List ℕ
call_lines nets groups = flat_map (call_line nets (shapes_of nets groups)) (enumerate_from 0 groups)

-- the whole text of a circuit and these groups of its devices, with these ports on the line of its `.subckt` and these on lines with `+`
abbrev pub cell_text_with : CircuitData → List (List Device) → List (List ℕ) → List (List (List ℕ)) → List ℕ
cell_text_with c groups leading others =
    codes "* domsyn deck 2" ++ 10 ∷ []
    ++ flat_map phase_line c.phases
    ++ flat_map cell_lines (enumerate_from 0 (shapes_of c.nets groups))
    ++ deck_line (codes ".subckt") (c.name ∷ leading)
    ++ flat_map plus_lines others
    ++ call_lines c.nets groups
    ++ deck_line (codes ".ends") (c.name ∷ [])

-- the text of a circuit whose groups end at these places; its ports stand as in the text without cells
pub record IsWrittenByCells (c : CircuitData) (places : List ℕ) (text : List ℕ) : Type 0 where
  pub with_roles : (clocks : ℕ) (pins outs : List (List ℕ)) → HasRoles (take c.ports c.nets) clocks pins outs
      → text ≡ cell_text_with c (groups_from 0 places c.devices) (leading_ports clocks) (pins ∷ outs ∷ [])
  pub without_roles : ((clocks : ℕ) (pins outs : List (List ℕ)) → HasRoles (take c.ports c.nets) clocks pins outs → ⊥)
      → text ≡ cell_text_with c (groups_from 0 places c.devices) [] (take c.ports c.nets ∷ [])

-- the places rise strictly from the first number to the last
abbrev pub PlacesRise : ℕ → List ℕ → ℕ → Type 0
PlacesRise start [] last = start ≡ last
PlacesRise start (place ∷ places) last = (start < place) × PlacesRise place places last

-- a circuit that can be written by its cells, and the places at which its groups end
pub record HasCells (c : CircuitData) (places : List ℕ) : Type 0 where
  pub good : IsGoodCircuit c
  pub no_equals : All HasNoEquals c.nets
  -- the first two ports are the supplies
  pub two_ports : 2 ≤ c.ports
  pub supplies_first : take 2 c.nets ≡ supplies
  pub other_name : starts_with nat_eq c.name (codes "cell-") ≡ false
  pub rises : PlacesRise 0 places (length c.devices)
  pub few_nets : All (λ group. length (group_cell c.nets group).nets ≤ most_ports) (groups_from 0 places c.devices)
